-- One step of Euclid's algorithm keeps the common divisors, and only one of them is the greatest.
use Rattle.std.proofs.Common.{◌≡◌, ℕ, ◌+◌, ◌-◌, ◌*◌, ◌/◌, ◌%◌, ◌<◌, sym, ap, ◌∙◌, mul_assoc, mul_comm, add-mul, pos_of_ne-zero, one-mul, mul-zero, div-add-mod', zero-mul, arith}
use native.Mathlib.Nat.{mul-sub, dvd_antisymm}
use Rattle.periods.specs.Divisors.{Divides, Gcd}

-- a divisor divides what a part that it divides leaves of the whole
rest : (d m n : ℕ) → Divides d (m + n) → Divides d m → Divides d n
rest d m n (k, all) (j, part) =
    (k - j, omega (arith, mul-sub d k j, mul_comm d (k - j), mul_comm d k, mul_comm d j))

-- it divides a number of times what it divides, and something more that it divides
both : (d q b r : ℕ) → Divides d b → Divides d r → Divides d (q * b + r)
both d q b r (k, times) (j, more) =
    (q * k + j, omega (arith, add-mul (q * k) j d, mul_assoc q k d, ap (λ z. q * z) times))

-- a divisor of b divides every number of times b
multiple : (d q b : ℕ) → Divides d b → Divides d (q * b)
multiple d q b (k, times) = (q * k, ap (λ z. q * z) times ∙ sym (mul_assoc q k d))

-- what is greatest of b and the remainder is greatest of a and b
pub step : (a b g : ℕ) → Gcd b (a % b) g → Gcd a b g
step a b g h =
    let parts = div-add-mod' a b in
    let (k, times) = both g (a / b) b (a % b) h.left h.right in
    record {
      left = (k, omega arith);
      right = h.left;
      greatest = λ d (j, da) db. h.greatest d db (rest d (a / b * b) (a % b) (j, omega arith) (multiple d (a / b) b db));
    }

-- the greatest of a number and 0 is the number
pub whole : (a : ℕ) → Gcd a 0 a
whole a = record {
  left = (1, sym (one-mul a));
  right = (0, sym (zero-mul a));
  greatest = λ d divides _. divides;
}

-- of two numbers that divide one another each is the other
same : (g h : ℕ) → Divides g h → Divides h g → g ≡ h
same g h (k, up) (j, down) = dvd_antisymm ∣ (k, up ∙ mul_comm k g) ∣₁ ∣ (j, down ∙ mul_comm j h) ∣₁

-- there is one greatest
pub alone : (a b g h : ℕ) → Gcd a b g → Gcd a b h → g ≡ h
alone a b g h one other =
    same g h (other.greatest g one.left one.right) (one.greatest h other.left other.right)

-- a divisor of a number above 0 is above 0
pub some : (d n : ℕ) → Divides d n → 0 < n → 0 < d
some d n (k, times) above =
    pos_of_ne-zero (λ none. let nothing = ap (λ z. k * z) none ∙ mul-zero k in omega arith)
