-- The texts that the program writes.
use Rattle.std.specs.Prelude.{ℕ, List, ◌++◌, codes, decimal}
use Rattle.frames.specs.declared.fault.Reason.{Reason}
use Rattle.frames.specs.declared.fault.Reason.TheVariants.{KeyExpected, DigitExpected, LeadingZero, Below, Above, EndExpected}
use Rattle.frames.specs.declared.key.Key.{Key}
use Rattle.frames.specs.declared.key.Key.TheVariants.{Size, Rate, Grain}
use Rattle.frames.specs.declared.fault.Refusal.{Refusal}
use Rattle.frames.specs.declared.tally.Tally.{Tally}
use Rattle.frames.specs.declared.timed.Timed.{Timed}
use Rattle.frames.specs.Line.{written}

-- the name of a key
abbrev pub key_text : Key → List ℕ
key_text Size = codes "size"
key_text Rate = codes "rate"
key_text Grain = codes "grain"

-- why a line is refused
abbrev pub reason_text : Reason → List ℕ
reason_text KeyExpected = codes "key expected"
reason_text DigitExpected = codes "digit expected"
reason_text LeadingZero = codes "leading zero"
reason_text (Below least) = codes "number below " ++ decimal least
reason_text (Above most) = codes "number above " ++ decimal most
reason_text EndExpected = codes "end of line expected"

-- a frame's line, and then its length in steps and in µs
abbrev pub timed_text : Timed → List ℕ
timed_text t = written t.frame ++ (codes " steps=" ++ (decimal t.steps ++ (codes " us=" ++ decimal t.micros)))

-- the line that was refused, counted from 1, the key at which it went wrong, and why
abbrev pub refusal_text : Refusal → List ℕ
refusal_text r = codes "refused line=" ++ (decimal r.line ++ (codes " key=" ++ (key_text r.fault.key ++ (codes " reason=" ++ reason_text r.fault.reason))))

-- how many frames were timed, and their µs in all
abbrev pub tally_text : Tally → List ℕ
tally_text t = codes "frames=" ++ (decimal t.frames ++ (codes " us=" ++ decimal t.micros))
