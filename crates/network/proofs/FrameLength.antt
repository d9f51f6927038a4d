-- The length of a frame: that it is the least, and that its µs are a number of 64 bits.
use Rattle.std.proofs.Common.{◌≡◌, ℕ, zero, suc, ◌*◌, ◌^◌, ◌<◌, ◌≤◌, Some, refl, ap, ◌∙◌, mul-le-mul_right, mul_assoc, suc-mul, mul_comm, pos_of_ne-zero, mul-pos, lt_of_not-le, mul-zero, zero-mul, le-mul_of_pos_right, arith}
use Rattle.std.proofs.lemmas.Bool.Decides.{nat_tests}
use Rattle.network.specs.declared.frame.Frame.{Frame}
use Rattle.network.specs.FrameTime.{bits, bits_in_step, round_up, steps_of, Carries, Least, LeastTime}
use Rattle.network.proofs.Rounding.{enough, fewest}

module _ (f : Frame) (rated : 0 < f.rate) (grained : 0 < f.grain) where
  pub length_is : Some (round_up (bits f) (bits_in_step f)) ≡ steps_of f
  length_is = grind (arith, nat_tests)

  pub length_least : Least f (round_up (bits f) (bits_in_step f))
  length_least =
      let some : 0 < bits_in_step f = mul-pos rated grained in
      record { enough = enough (bits f) (bits_in_step f) some; fewest = λ m h. fewest (bits f) (bits_in_step f) m some h }

-- the bits of n steps, by the step and by the µs
by_step : (f : Frame) (n : ℕ) → n * f.grain * f.rate ≡ n * bits_in_step f
by_step f n = mul_assoc n f.grain f.rate ∙ ap (λ z. n * z) (mul_comm f.grain f.rate)

-- a frame has bits, so a link that carries it has a rate
rate_some : (f : Frame) (n : ℕ) → Carries f n → 0 < f.rate
rate_some f n carried =
    pos_of_ne-zero (λ none. let nothing = ap (λ r. n * (r * f.grain)) none ∙ ap (λ z. n * z) (zero-mul f.grain) ∙ mul-zero n in omega arith)

-- all steps but the last carry fewer bits than the frame has, and each µs carries at least one bit
pub micros_fit : (f : Frame) (n : ℕ) → f.size < 2 ^ 32 → f.grain < 2 ^ 32 → Least f n → n * f.grain < 2 ^ 64
micros_fit f zero small fine least = rw zero-mul (omega arith)
micros_fit f (suc m) small fine least =
    let short : m * (f.rate * f.grain) < bits f = lt_of_not-le (λ carried. let more = least.fewest m carried in omega arith) in
    let slow : m * f.grain ≤ m * f.grain * f.rate = le-mul_of_pos_right (m * f.grain) (rate_some f (suc m) least.enough) in
    rw suc-mul (omega (arith, by_step f m))

pub time_least : (f : Frame) (n : ℕ) → Least f n → LeastTime f (n * f.grain)
time_least f n least = record {
  whole = (n, refl);
  enough = omega (arith, by_step f n, least.enough);
  shortest = λ m h. mul-le-mul_right f.grain (least.fewest m (omega (arith, by_step f m)));
}
