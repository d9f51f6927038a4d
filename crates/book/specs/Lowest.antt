-- The lowest number of a stretch that passes a test.
use Rattle.std.specs.Prelude.{◌≡◌, ℕ, zero, suc, Bool, true, false, cond, Some, None, Option, refl}
use Rattle.std.proofs.Common.{ap}

-- the lowest of the n numbers from i on that passes p
pub lowest : (ℕ → Bool) → ℕ → ℕ → Option ℕ
lowest p i zero = None
lowest p i (suc n) = cond (p i) (Some i) (lowest p (suc i) n)

-- there is none among no numbers
pub lowest_end : (p : ℕ → Bool) (i : ℕ) → lowest p i 0 ≡ None
unfolding lowest
lowest_end p i = refl

-- it is the first, where that passes
pub lowest_here : (p : ℕ → Bool) (i n : ℕ) → p i ≡ true → lowest p i (suc n) ≡ Some i
unfolding lowest
lowest_here p i n is = ap (λ v. cond v (Some i) (lowest p (suc i) n)) is

-- and one of the later numbers, where the first does not
pub lowest_past : (p : ℕ → Bool) (i n : ℕ) → p i ≡ false → lowest p i (suc n) ≡ lowest p (suc i) n
unfolding lowest
lowest_past p i n is = ap (λ v. cond v (Some i) (lowest p (suc i) n)) is
