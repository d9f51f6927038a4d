-- Rounding up gives the least multiple that is large enough.
use Rattle.std.proofs.Common.{◌≡◌, ℕ, zero, suc, ◌*◌, ◌/◌, ◌%◌, ◌<◌, ◌≤◌, min, ◌⊎◌, inl, inr, ⊎_elim, mod-lt, add-mul, lt_of_mul-lt-mul_right, one-mul, div-add-mod', le_of_mul-le-mul_right, arith}
use Rattle.network.specs.FrameTime.{round_up}

-- nothing is left over, or something is
left_over : (r : ℕ) → ((r ≡ 0) × (min 1 r ≡ 0)) ⊎ ((0 < r) × (min 1 r ≡ 1))
left_over zero = inl (omega arith, omega arith)
left_over (suc r) = inr (omega arith, omega arith)

pub enough : (n d : ℕ) → 0 < d → n ≤ round_up n d * d
enough n d pos =
    let whole = div-add-mod' n d in
    let parts = add-mul (n / d) (min 1 (n % d)) d in
    let less = mod-lt n pos in
    ⊎_elim
    (λ none. omega (arith, none.0))
    (λ some. let one : min 1 (n % d) * d ≡ d = rw some.1 (one-mul d) in omega arith)
    (left_over (n % d))

pub fewest : (n d m : ℕ) → 0 < d → n ≤ m * d → round_up n d ≤ m
fewest n d m pos h =
    let whole = div-add-mod' n d in
    ⊎_elim
    (λ none. let under : n / d * d ≤ m * d = omega (arith, none.0) in omega (arith, none.1, le_of_mul-le-mul_right under pos))
    (λ some. let under : n / d * d < m * d = omega (arith, some.0) in omega (arith, some.1, lt_of_mul-lt-mul_right d under))
    (left_over (n % d))
