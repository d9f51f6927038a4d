-- What the program answers to its input.
use Rattle.std.specs.Prelude.{◌≡◌, ℕ, suc, List, [], ◌∷◌, ◌++◌, length, Some, None, Ok, Err, sum_by, Option, Result}
use Rattle.std.specs.List.{flat_map}
use Rattle.std.specs.Option.{unwrap_or}
use Rattle.network.specs.FrameTime.{steps_of, micros_of}
use Rattle.network.specs.declared.Frame.{Frame}
use Rattle.text.specs.Lines.{lines}
use Rattle.frames.specs.declared.fault.Fault.{Fault}
use Rattle.frames.specs.declared.fault.Refusal.{Refusal}
use Rattle.frames.specs.declared.tally.Tally.{Tally}
use Rattle.frames.specs.declared.timed.Timed.{Timed}
use Rattle.frames.specs.Line.{and_then, read_line}
use Rattle.frames.specs.Texts.{timed_text, refusal_text, tally_text}

-- a frame with its length in steps and in µs
abbrev pub timed : Frame → Timed
timed f = record { frame = f; steps = unwrap_or (steps_of f) 0; micros = unwrap_or (micros_of f) 0 }

-- the frame of a line with its time
unfoldable pub time_line : List ℕ → Result Timed Fault
time_line bs = and_then (read_line bs) (λ f. Ok (timed f))

-- one more frame in front of those of the later lines, or the end at a refusal
abbrev pub accepted_then : Result Timed Fault → List Timed → List Timed
accepted_then (Ok x) xs = x ∷ xs
accepted_then (Err e) xs = []

-- the frames of the lines in front of the first that is refused
abbrev pub accepted : List (List ℕ) → List Timed
accepted [] = []
accepted (l ∷ ls) = accepted_then (time_line l) (accepted ls)

-- the refusal of line n, or that of a later line
abbrev pub refused_then : ℕ → Result Timed Fault → Option Refusal → Option Refusal
refused_then n (Ok x) later = later
refused_then n (Err e) later = Some (record { line = n; fault = e })

-- the first line that is refused, if any, where the first of all is line n
abbrev pub refused : ℕ → List (List ℕ) → Option Refusal
refused n [] = None
refused n (l ∷ ls) = refused_then n (time_line l) (refused (suc n) ls)

-- how many frames there are, and their µs in all
abbrev pub tally_of : List Timed → Tally
tally_of xs = record { frames = length xs; micros = sum_by (λ x. x.micros) xs }

-- a text with a line feed
abbrev pub line : List ℕ → List ℕ
line bs = bs ++ (10 ∷ [])

-- the line that is written for a frame
abbrev pub timed_line : Timed → List ℕ
timed_line x = line (timed_text x)

-- the line that is written for a refusal, if there is one
abbrev pub refusal_line : Option Refusal → List ℕ
refusal_line None = []
refusal_line (Some r) = line (refusal_text r)

-- a line for each frame up to the first line that is refused, and a line for that one, if any
abbrev pub answer_lines : List ℕ → List ℕ
answer_lines bs = flat_map timed_line (accepted (lines bs)) ++ refusal_line (refused 1 (lines bs))

-- those lines, and then the tally
abbrev pub answer : List ℕ → List ℕ
answer bs = answer_lines bs ++ line (tally_text (tally_of (accepted (lines bs))))

-- the lines of the answer to the input bs went behind old, and t is their tally
pub record Answered (bs old new : List ℕ) (t : Tally) : Type 0 where
  pub text : new ≡ old ++ answer_lines bs
  pub tally : t ≡ tally_of (accepted (lines bs))
