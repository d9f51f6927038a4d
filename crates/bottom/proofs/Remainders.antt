-- Steps from one remainder to another.
use Rattle.std.proofs.Common.{◌≡◌, ℕ, suc, ◌+◌, ◌-◌, ◌*◌, ◌/◌, ◌%◌, ◌<◌, ◌≤◌, ap, ◌∙◌, ⊎_elim, mul-le-mul_right, mod-lt, suc-mul, lt_of_mul-lt-mul_right, div-add-mod', arith}
use native.Mathlib.Nat.{mul-add-mod_self_right, mod-mod}
use Rattle.std.proofs.lemmas.Bool.Decides.{leb_tells}
use Rattle.bottom.specs.Leading.{Leads}

-- up to a remainder that is not smaller
pub up : (from to g : ℕ) → 0 < g → from % g ≤ to % g → Leads from to g (to % g - from % g)
up from to g some le =
    let whole = div-add-mod' from g in
    let sum : from + (to % g - from % g) ≡ from / g * g + to % g = omega arith in
    record {
      below = omega (arith, mod-lt to some);
      there = ap (λ z. z % g) sum ∙ mul-add-mod_self_right (from / g) g (to % g) ∙ mod-mod to g;
    }

-- and round to a smaller one
pub round : (from to g : ℕ) → 0 < g → to % g < from % g → Leads from to g (g - (from % g - to % g))
round from to g some less =
    let whole = div-add-mod' from g in
    let under = mod-lt from some in
    let more = suc-mul (from / g) g in
    let sum : from + (g - (from % g - to % g)) ≡ suc (from / g) * g + to % g = omega arith in
    record {
      below = omega arith;
      there = ap (λ z. z % g) sum ∙ mul-add-mod_self_right (suc (from / g)) g (to % g) ∙ mod-mod to g;
    }

le_of_not_more : (r d : ℕ) → (d < r → ⊥) → r ≤ d
le_of_not_more r d never = ⊎_elim (λ le. le.1) (λ more. absurd (never more.1)) (leb_tells r d)

-- fewer than g steps to a remainder are the fewest
pub fewest : (a r d g : ℕ) → r < g → (a + d) % g ≡ (a + r) % g → r ≤ d
fewest a r d g less same =
    le_of_not_more r d (λ fewer.
    let here = div-add-mod' (a + d) g in
    let there = div-add-mod' (a + r) g in
    let further : (a + d) / g * g < (a + r) / g * g = omega arith in
    let turn : (a + d) / g < (a + r) / g = lt_of_mul-lt-mul_right g further in
    let whole : suc ((a + d) / g) * g ≤ (a + r) / g * g = mul-le-mul_right g turn in
    let parts = suc-mul ((a + d) / g) g in
    omega arith)
