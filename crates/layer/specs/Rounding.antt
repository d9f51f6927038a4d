-- Numbers over a grain.
use Rattle.std.proofs.Common.{⊎_elim, ap, ◌∙◌, add-mul, zero-mul, mod-lt, div-add-mod', mul-le-mul_right, mul-lt-mul_of_pos_right, lt_of_mul-lt-mul_right, arith}
use Rattle.std.specs.Prelude.{◌≡◌, ℕ, zero, suc, ◌+◌, ◌-◌, ◌*◌, ◌/◌, ◌%◌, ◌<◌, ◌≤◌, min}
use Rattle.std.proofs.Math.Nat.{mod-zero}
use Rattle.std.proofs.lemmas.Bool.Decides.{leb_tells}
use Rattle.layer.specs.Grains.{rounded_up}

-- what a grain divides is its quotient times the grain
pub whole : (n g : ℕ) → n % g ≡ 0 → n / g * g ≡ n
whole n g none = omega (arith, div-add-mod' n g)

-- only 0 is divided by 0
pub grain_some : (n g : ℕ) → 0 < n → n % g ≡ 0 → 0 < g
grain_some n zero some none = absurd (omega (arith, mod-zero n))
grain_some n (suc g) some none = omega arith

-- what some grains are is 0 only where there are none
pub quotient_some : (q g n : ℕ) → q * g ≡ n → 0 < n → 0 < q
quotient_some zero g n is some = absurd (omega (arith, zero-mul g))
quotient_some (suc q) g n is some = omega arith

-- rounded up, it is at least the number, and d is less exactly when d grains are
pub rounded_covers : (n g : ℕ) → 0 < g → n ≤ rounded_up n g * g
rounded_covers n g some =
    let parts = div-add-mod' n g in
    let less = mod-lt n some in
    let sum = add-mul (n / g) (min 1 (n % g)) g in
    ⊎_elim
    (λ none. let z : min 1 (n % g) ≡ 0 = omega (arith, none.1) in let m = ap (λ x. x * g) z in omega arith)
    (λ more. let o : min 1 (n % g) ≡ 1 = omega (arith, more.1) in let m = ap (λ x. x * g) o in omega arith)
    (leb_tells (n % g) 0)

pub rounded_less : (n g d : ℕ) → 0 < g → d < rounded_up n g → d * g < n
rounded_less n g d some less =
    let parts = div-add-mod' n g in
    ⊎_elim
    (λ under. let m : d * g ≤ n / g * g = mul-le-mul_right g under.1 in ⊎_elim (λ none. let z : min 1 (n % g) ≡ 0 = omega (arith, none.1) in let less' : d < n / g = omega arith in let t : d * g < n / g * g = mul-lt-mul_of_pos_right less' some in omega arith) (λ more. omega (arith, more.1)) (leb_tells (n % g) 0))
    (λ over. absurd (omega (arith, over.1)))
    (leb_tells d (n / g))

-- the numbers within d grains have at most d when rounded up
pub rounded_within : (n g d : ℕ) → 0 < g → n ≤ d * g → rounded_up n g ≤ d
rounded_within n g d some le = ⊎_elim (λ short. short.1) (λ long. absurd (omega (arith, rounded_less n g d some long.1))) (leb_tells (rounded_up n g) d)

-- a step s is before a + (l + the rest rounded up) exactly when s grains are before the same below
pub fine_before : (a l r g s : ℕ) → 0 < g → s < a + (l + rounded_up r g) → s * g < a * g + (l * g + r)
fine_before a l r g s some less =
    let sum = add-mul a l g in
    ⊎_elim
    (λ late.
    let d = s - (a + l) in
    let parts : s ≡ (a + l) + d = omega (arith, late.1) in
    let whole = ap (λ x. x * g) parts ∙ add-mul (a + l) d g in
    let under = rounded_less r g d some (omega (arith, late.1)) in
    omega arith)
    (λ early. let t : s * g < (a + l) * g = mul-lt-mul_of_pos_right early.1 some in omega arith)
    (leb_tells (a + l) s)

pub coarse_before : (a l r g s : ℕ) → 0 < g → s * g < a * g + (l * g + r) → s < a + (l + rounded_up r g)
coarse_before a l r g s some less =
    let R = rounded_up r g in
    let sum : (a + (l + R)) * g ≡ a * g + (l * g + R * g) = add-mul a (l + R) g ∙ ap (λ x. a * g + x) (add-mul l R g) in
    let covers = rounded_covers r g some in
    lt_of_mul-lt-mul_right g (omega arith)
