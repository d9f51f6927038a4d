-- What a line says, and why it is refused.
use Rattle.std.specs.Prelude.{◌≡◌, ℕ, cond, List, [], ◌∷◌, ◌++◌, Some, None, Ok, Err, decimal, Option, Result, MatchResult, ◌≢◌, nat_lt}
use Rattle.network.specs.Ranges.{Within}
use Rattle.network.specs.declared.Frame.{Frame}
use Rattle.text.specs.Front.{after}
use Rattle.text.specs.Number.{number}
use Rattle.text.specs.declared.NumberFault.{NumberFault}
use Rattle.text.specs.declared.NumberFault.TheVariants as fault
use Rattle.frames.specs.declared.fault.Fault.{Fault}
use Rattle.frames.specs.declared.fault.Reason.{Reason}
use Rattle.frames.specs.declared.fault.Reason.TheVariants.{KeyExpected, DigitExpected, LeadingZero, Below, Above, EndExpected}
use Rattle.frames.specs.declared.key.Key.{Key}
use Rattle.frames.specs.declared.key.Key.TheVariants.{Size, Rate, Grain}
use Rattle.frames.specs.Keys.{opening, range_of}

-- f of what was read, or the refusal
abbrev pub and_then : {A B E : Type 0} → Result A E → (A → Result B E) → Result B E
and_then (Ok x) f = f x
and_then (Err e) f = Err e

-- a refusal at key k
abbrev pub refuse : {A : Type 0} → Key → Reason → Result A Fault
refuse k why = Err (record { key = k; reason = why })

-- why a line is refused, where no number could be read
abbrev pub number_reason : NumberFault → Reason
number_reason fault.DigitExpected = DigitExpected
number_reason fault.LeadingZero = LeadingZero
number_reason fault.TooGreat = Above 4294967295

-- what was read, or the refusal at key k for the same reason
abbrev pub at_key : {A : Type 0} → Key → Result A NumberFault → Result A Fault
at_key k (Ok x) = Ok x
at_key k (Err why) = refuse k (number_reason why)

-- the number of key k in the text after its opening, and the text after it; none: the key does not stand there
abbrev pub number_after : Key → Option (List ℕ) → Result (ℕ × List ℕ) Fault
number_after k None = refuse k KeyExpected
number_after k (Some bs) = at_key k (number bs)

-- the number of key k at the front of a text, and the text after it
unfoldable pub field : Key → List ℕ → Result (ℕ × List ℕ) Fault
field k bs = number_after k (after (opening k) bs)

-- the frame, where nothing is left of its line
abbrev pub at_end : Frame → List ℕ → Result Frame Fault
at_end f [] = Ok f
at_end f (b ∷ bs) = refuse Grain EndExpected

-- the three numbers of a line
abbrev pub form : List ℕ → Result Frame Fault
form bs =
    and_then (field Size bs)
    (λ s. and_then (field Rate s.1) (λ r. and_then (field Grain r.1) (λ g. at_end (record { size = s.0; rate = r.0; grain = g.0 }) g.1)))

-- whether key k may have the number n
unfoldable pub in_range : Key → ℕ → Result (Unit {0}) Fault
in_range k n =
    cond (nat_lt n (range_of k).least) (refuse k (Below (range_of k).least))
    (cond (nat_lt (range_of k).most n) (refuse k (Above (range_of k).most)) (Ok tt))

-- the frame, where each key may have its number
abbrev pub allowed : Frame → Result Frame Fault
allowed f = and_then (in_range Size f.size) (λ _. and_then (in_range Rate f.rate) (λ _. and_then (in_range Grain f.grain) (λ _. Ok f)))

-- the frame that a line asks about: the line's form comes first, then the ranges from the left
abbrev pub read_line : List ℕ → Result Frame Fault
read_line bs = and_then (form bs) allowed

-- the line of a frame: its keys, each with its number in decimal
unfoldable pub written : Frame → List ℕ
written f = opening Size ++ (decimal f.size ++ (opening Rate ++ (decimal f.rate ++ (opening Grain ++ decimal f.grain))))

-- each key may have the frame's number
pub record Allowed (f : Frame) : Type 0 where
  pub size : Within (range_of Size) f.size
  pub rate : Within (range_of Rate) f.rate
  pub grain : Within (range_of Grain) f.grain

-- a line is accepted exactly when it is the line of an allowed frame, and that frame is answered
abbrev pub ReadsExactly : List ℕ → Result Frame Fault → Type 0
ReadsExactly bs r = MatchResult r (λ f. (bs ≡ written f) × Allowed f) (λ _. (f : Frame) → Allowed f → bs ≢ written f)
