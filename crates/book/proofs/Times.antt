-- The steps that a window holds, by the time since its start and by cycles.
use Rattle.std.proofs.Common.{◌≡◌, ℕ, suc, ◌+◌, ◌-◌, ◌*◌, ◌/◌, ◌%◌, ◌<◌, ◌≤◌, ◌&&◌, ltb, leb, Decides, ap, ◌∙◌, mul_assoc, suc-mul, add-mul, lt_of_mul-lt-mul_right, div-add-mod', arith}
use native.Mathlib.Nat.{mul-add-mod_self_right, mod-le}
use Rattle.std.proofs.lemmas.Bool.Decides.{nat_tests}

-- s is one of the l steps from a + k * p on, for some k
abbrev pub Among : ℕ → ℕ → ℕ → ℕ → Type 0
Among a p l s = (k : ℕ) × ((a + k * p ≤ s) × (s < a + k * p + l))

into : (a p l s : ℕ) → a ≤ s → (s - a) % p < l → Among a p l s
into a p l s late early = let whole = div-add-mod' (s - a) p in ((s - a) / p, (omega arith, omega arith))

since : (a p l s : ℕ) → Among a p l s → (s - a) % p < l
since a p l s (k, (late, early)) =
    let c = s - (a + k * p) in
    let parts : s - a ≡ k * p + c = omega arith in
    omega (arith, ap (λ z. z % p) parts ∙ mul-add-mod_self_right k p c, mod-le c p)

pub among_decides : (a p l s : ℕ) → Decides (leb a s && ltb ((s - a) % p) l) (Among a p l s)
among_decides a p l s = (
  (λ is. into a p l s (grind (arith, nat_tests)) (grind (arith, nat_tests))),
  (λ h. let late : a ≤ s = omega (arith, h.1.0) in let early = since a p l s h in grind (arith, nat_tests)),
)

-- what ends within its period is held n periods earlier too
pub earlier : (a p l n t : ℕ) → a + l ≤ p → Among a p l (n * p + t) → Among a p l t
earlier a p l n t ends (k, (late, early)) =
    let under : n * p < suc k * p = rw suc-mul (omega arith) in
    let less : n < suc k = lt_of_mul-lt-mul_right p under in
    let j = k - n in
    let parts : k ≡ n + j = omega arith in
    let both : k * p ≡ n * p + j * p = ap (λ z. z * p) parts ∙ add-mul n j p in
    (j, (omega arith, omega arith))

-- and n periods later
pub later : (a p l n t : ℕ) → Among a p l t → Among a p l (n * p + t)
later a p l n t (k, (late, early)) = let parts = add-mul n k p in (n + k, (omega arith, omega arith))

-- a step is a number of periods later than its place in the cycle
pub in_cycle : (c p s : ℕ) → c % p ≡ 0 → s ≡ (s / c * (c / p)) * p + s % c
in_cycle c p s whole =
    let cycle : c / p * p ≡ c = omega (arith, div-add-mod' c p) in
    omega (arith, div-add-mod' s c, mul_assoc (s / c) (c / p) p ∙ ap (λ z. s / c * z) cycle)
