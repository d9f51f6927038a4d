-- What a refusal says of its line: the fields before the key at fault are right, and there the line goes wrong.
use Rattle.std.specs.Prelude.{◌≡◌, ℕ, ◌^◌, ◌<◌, ◌⊎◌, List, ◌++◌, length, IfErr, decimal, Result, ◌≢◌}
use Rattle.network.specs.Ranges.{Within}
use Rattle.network.specs.declared.Frame.{Frame}
use Rattle.network.specs.declared.Range.{Range}
use Rattle.text.specs.Number.{NoDigit, BadNumber}
use Rattle.text.specs.declared.NumberFault.{NumberFault}
use Rattle.frames.specs.declared.fault.Fault.{Fault}
use Rattle.frames.specs.declared.fault.Reason.{Reason}
use Rattle.frames.specs.declared.fault.Reason.TheVariants.{KeyExpected, DigitExpected, LeadingZero, Below, Above, EndExpected}
use Rattle.frames.specs.declared.key.Key.{Key}
use Rattle.frames.specs.declared.key.Key.TheVariants.{Size, Rate, Grain}
use Rattle.frames.specs.Keys.{opening, range_of}
use Rattle.frames.specs.Line.{number_reason, written}

-- a text begins with key k and its number n, of 32 bits, and goes on with rest
pub record Field (k : Key) (bs : List ℕ) (n : ℕ) (rest : List ℕ) : Type 0 where
  pub text : bs ≡ opening k ++ (decimal n ++ rest)
  pub stops : NoDigit rest
  pub fits : n < 2 ^ 32

-- the line has the fields before key k, and text is what stands where k must be
abbrev pub At : Key → List ℕ → List ℕ → Type 0
At Size line text = line ≡ text
At Rate line text = (n : ℕ) × Field Size line n text
At Grain line text = (n : ℕ) × ((middle : List ℕ) × (Field Size line n middle × ((m : ℕ) × Field Rate middle m text)))

-- the line goes wrong at its key: the key does not stand there, or no good number follows it
pub record Malformed (line : List ℕ) (e : Fault) : Type 0 where
  pub text : List ℕ
  pub at : At e.key line text
  pub wrong : ((e.reason ≡ KeyExpected) × ((rest : List ℕ) → text ≢ opening e.key ++ rest)) ⊎ ((rest : List ℕ) × ((text ≡ opening e.key ++ rest) × ((bad : NumberFault) × ((e.reason ≡ number_reason bad) × BadNumber rest bad))))

-- the line has the three fields of a frame and goes on
pub record Overlong (line : List ℕ) (e : Fault) : Type 0 where
  pub is : e ≡ record { key = Grain; reason = EndExpected }
  pub text : List ℕ
  pub at : At Grain line text
  pub grain : ℕ
  pub rest : List ℕ
  pub last : Field Grain text grain rest
  pub some : 0 < length rest

-- n is not one of the range's numbers
abbrev pub Outside : Range → ℕ → Reason → Type 0
Outside r n (Below least) = (least ≡ r.least) × (n < least)
Outside r n (Above most) = (most ≡ r.most) × (most < n)
Outside r n KeyExpected = ⊥
Outside r n DigitExpected = ⊥
Outside r n LeadingZero = ⊥
Outside r n EndExpected = ⊥

-- the key has a number that it may not have, and the keys before it have none such
abbrev pub FirstOutside : Frame → Key → Reason → Type 0
FirstOutside f Size why = Outside (range_of Size) f.size why
FirstOutside f Rate why = Within (range_of Size) f.size × Outside (range_of Rate) f.rate why
FirstOutside f Grain why = Within (range_of Size) f.size × (Within (range_of Rate) f.rate × Outside (range_of Grain) f.grain why)

-- the line is that of a frame, with a number that its key may not have
pub record Outlying (line : List ℕ) (e : Fault) : Type 0 where
  pub frame : Frame
  pub text : line ≡ written frame
  pub outside : FirstOutside frame e.key e.reason

-- the three ways in which a line can be refused
abbrev pub Explains : List ℕ → Fault → Type 0
Explains line e = Malformed line e ⊎ (Overlong line e ⊎ Outlying line e)

-- a refusal is explained by the line
abbrev pub Explained : List ℕ → Result Frame Fault → Type 0
Explained line r = IfErr r (Explains line)
