-- Steps of two periods lead from each number to those that leave the same remainder by the greatest common divisor.
use Rattle.std.proofs.Common.{◌≡◌, ℕ, zero, suc, pred, ◌+◌, ◌*◌, ◌/◌, ◌%◌, ◌<◌, sym, ap, ◌∙◌, subst, ⊎_elim, not-suc-le-zero, mod-lt, mul_assoc, suc-mul, add-mul, eq-zero-or-pos, pos_of_ne-zero, one-mul, div-add-mod', zero-mul, mul-add, arith}
use native.Mathlib.Nat.{add-mul-mod_self_right, suc-pred-eq_of_pos}
use Rattle.periods.specs.Divisors.{Gcd, Met, Reaches}
use Rattle.periods.proofs.Euclid.{step, whole, alone}

-- steps of a lead g past steps of b
abbrev Past : ℕ → ℕ → ℕ → Type 0
Past a b g = (x : ℕ) × ((y : ℕ) × (x * a ≡ y * b + g))

-- g is the greatest common divisor, and steps of each period lead g past steps of the other
record Led (a b g : ℕ) : Type 0 where
  greatest : Gcd a b g
  left : Past a b g
  right : Past b a g

-- b divides a: a step of a is one step of b past the others that it holds
ends : (a b : ℕ) → 0 < a → a % b ≡ 0 → Led a b b
ends a b above none =
    let m = a / b in
    let parts = div-add-mod' a b in
    let some : 0 < m = pos_of_ne-zero (λ zeros. let nothing = ap (λ z. z * b) zeros ∙ zero-mul b in omega arith) in
    let fewer = ap (λ z. z * b) (suc-pred-eq_of_pos some) in
    record {
      greatest = step a b b (rw none (whole b));
      left = (1, (pred m, omega (arith, one-mul a, suc-mul (pred m) b)));
      right = (1, (0, omega (arith, one-mul b, zero-mul a)));
    }

-- what b and the remainder lead to, a and b lead to
goes_on : (a b g : ℕ) → Led b (a % b) g → Led a b g
goes_on a b g led =
    let m = a / b in
    let r = a % b in
    let (x, (y, past)) = led.left in
    let (v, (w, back)) = led.right in
    let parts = div-add-mod' a b in
    record {
      greatest = step a b g led.greatest;
      left = (v, (v * m + w, omega (arith, ap (λ z. v * z) parts, mul-add v (m * b) r, add-mul (v * m) w b, mul_assoc v m b)));
      right = (x + y * m, (y, omega (arith, ap (λ z. y * z) parts, mul-add y (m * b) r, add-mul x (y * m) b, mul_assoc y m b)));
    }

-- one turn of Euclid's algorithm, where there is a remainder from that of b and the remainder
next : (a b : ℕ) → 0 < a → (0 < a % b → (g : ℕ) × Led b (a % b) g) → (g : ℕ) × Led a b g
next a b above more =
    ⊎_elim
    (λ none. (b, ends a b above none))
    (λ left. let (g, led) = more left in (g, goes_on a b g led))
    (eq-zero-or-pos (a % b))

-- along Euclid's algorithm, of which n bounds the turns
found : (n a b : ℕ) → b < n → 0 < a → 0 < b → (g : ℕ) × Led a b g
found zero a b bound above_a above_b = absurd (not-suc-le-zero bound)
found (suc n) a b bound above_a above_b =
    let less = mod-lt a above_b in
    next a b above_a (λ left. found n b (a % b) (omega arith) above_b left)

-- the greatest common divisor is what Euclid's algorithm finds
leads : (a b g : ℕ) → Gcd a b g → 0 < a → 0 < b → Led a b g
leads a b g one above_a above_b =
    let (h, other) = found (suc b) a b (omega arith) above_a above_b in
    subst (Led a b) (alone a b h g other.greatest one) other

-- n times the steps lead n times as far
times : (n x a y b g : ℕ) → x * a ≡ y * b + g → n * x * a ≡ n * y * b + n * g
times n x a y b g past =
    omega (arith, ap (λ z. n * z) past, mul_assoc n x a, mul_assoc n y b, mul-add n (y * b) g)

-- where steps meet, the remainders are the same
same : (a b g : ℕ) → Gcd a b g → (x y : ℕ) → Met a b x y → x % g ≡ y % g
same a b g common x y (j, (k, met)) =
    let (p, left) = common.left in
    let (q, right) = common.right in
    let one : x + j * p * g ≡ y + k * q * g = omega (arith, ap (λ z. j * z) left, ap (λ z. k * z) right, mul_assoc j p g, mul_assoc k q g) in
    sym (add-mul-mod_self_right x (j * p) g) ∙ ap (λ z. z % g) one ∙ add-mul-mod_self_right y (k * q) g

-- x is p times g and y is q times g, both with the same remainder: q times g from x and p times g from y meet
meet : (a b g : ℕ) → Led a b g → (x y : ℕ) → x % g ≡ y % g → Met a b x y
meet a b g led x y remains =
    let p = x / g in
    let q = y / g in
    let (i, (j, past)) = led.left in
    let (k, (l, back)) = led.right in (
      q * i + p * l,
      (
        q * j + p * k,
        omega (arith, div-add-mod' x g, div-add-mod' y g, add-mul (q * i) (p * l) a, add-mul (q * j) (p * k) b, times q i a j b g past, times p k b l a g back),
      ),
    )

-- steps of both meet exactly where the remainders are the same
pub reaches : (a b g : ℕ) → Gcd a b g → 0 < a → 0 < b → Reaches a b g
reaches a b g common above_a above_b x y =
    (same a b g common x y, meet a b g (leads a b g common above_a above_b) x y)
