-- How long a message's frame takes on a link.
use Rattle.std.specs.Prelude.{◌≡◌, ℕ, ◌+◌, ◌*◌, ◌/◌, ◌%◌, ◌≤◌, min, cond, ◌||◌, Some, None, Option, MatchOption, ◌==◌}
use Rattle.std.specs.Option.{option_map}
use Rattle.network.specs.declared.frame.Frame.{Frame}

-- the bits of the frame: those of its message and of 67 bytes more
abbrev pub bits : Frame → ℕ
bits f = (f.size + 67) * 8

-- the bits that the link carries in one step, since 1 Mbit/s is one bit in a µs
abbrev pub bits_in_step : Frame → ℕ
bits_in_step f = f.rate * f.grain

-- n / d, and one more where something is left over
abbrev pub round_up : ℕ → ℕ → ℕ
round_up n d = n / d + min 1 (n % d)

-- the frame's length in steps; none where rate or grain is 0
abbrev pub steps_of : Frame → Option ℕ
steps_of f = cond (f.rate == 0 || f.grain == 0) None (Some (round_up (bits f) (bits_in_step f)))

-- the same length in µs
abbrev pub micros_of : Frame → Option ℕ
micros_of f = option_map (λ n. n * f.grain) (steps_of f)

-- n steps carry the frame's bits
abbrev pub Carries : Frame → ℕ → Type 0
Carries f n = bits f ≤ n * bits_in_step f

-- n steps carry the frame, and no fewer do
pub record Least (f : Frame) (n : ℕ) : Type 0 where
  pub enough : Carries f n
  pub fewest : (m : ℕ) → Carries f m → n ≤ m

-- a length is the least number of steps that carry the frame; there is none where no number of steps does
abbrev pub LeastLength : Frame → Option ℕ → Type 0
LeastLength f r = MatchOption r ((n : ℕ) → Carries f n → ⊥) (Least f)

-- t is the shortest time of whole steps in which the link carries the frame
pub record LeastTime (f : Frame) (t : ℕ) : Type 0 where
  pub whole : (n : ℕ) × (t ≡ n * f.grain)
  pub enough : bits f ≤ t * f.rate
  pub shortest : (n : ℕ) → bits f ≤ n * f.grain * f.rate → t ≤ n * f.grain

-- a time is the shortest that carries the frame; there is none where no time does
abbrev pub ShortestTime : Frame → Option ℕ → Type 0
ShortestTime f r = MatchOption r ((n : ℕ) → bits f ≤ n * f.grain * f.rate → ⊥) (LeastTime f)
