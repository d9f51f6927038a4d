-- What the lowest number of a stretch says of the others.
use Rattle.std.proofs.Common.{◌≡◌, ℕ, zero, suc, ◌+◌, ◌<◌, ◌≤◌, Bool, true, false, Some, None, Option, sym, refl, subst, ⊎_elim, arith}
use Rattle.std.proofs.lemmas.Bool.Decides.{eqb_tells}
use Rattle.book.specs.Lowest.{lowest, lowest_end, lowest_here, lowest_past}

-- k is the lowest of the n numbers from i on that passes p, or none of them does
pub data Found (p : ℕ → Bool) (i n : ℕ) : Option ℕ → Type 0 where
  nowhere : ((j : ℕ) → i ≤ j → j < i + n → p j ≡ false) → Found p i n None
  somewhere : (k : ℕ) → i ≤ k → k < i + n → p k ≡ true → ((j : ℕ) → i ≤ j → j < k → p j ≡ false) → Found p i n (Some k)

-- what holds of a number and of every later one
from_first : (P : ℕ → Type 0) (i j : ℕ) → P i → (suc i ≤ j → P j) → i ≤ j → P j
from_first P i j first later le = ⊎_elim (λ same. subst P same.1 first) (λ other. let ne = other.1 in later (omega arith)) (eqb_tells i j)

later : (p : ℕ → Bool) (i n : ℕ) (o : Option ℕ) → p i ≡ false → Found p (suc i) n o → Found p i (suc n) o
later p i n None fails (nowhere all) = nowhere (λ j low. from_first (λ x. x < i + suc n → p x ≡ false) i j (λ _. fails) (λ more high. all j more (omega arith)) low)
later p i n (Some k) fails (somewhere k' low high passes all) =
    somewhere k (omega arith) (omega arith) passes (λ j le. from_first (λ x. x < k → p x ≡ false) i j (λ _. fails) (λ more under. all j more under) le)

pub found : (p : ℕ → Bool) (n i : ℕ) → Found p i n (lowest p i n)
found p zero i = subst (Found p i 0) (sym (lowest_end p i)) (nowhere (λ j low high. absurd (omega arith)))
found p (suc n) i = go (p i) refl (found p n (suc i))
  where
    go : (v : Bool) → p i ≡ v → Found p (suc i) n (lowest p (suc i) n) → Found p i (suc n) (lowest p i (suc n))
    go true passes more = subst (Found p i (suc n)) (sym (lowest_here p i n passes)) (somewhere i (omega arith) (omega arith) passes (λ j low high. absurd (omega arith)))
    go false fails more = subst (Found p i (suc n)) (sym (lowest_past p i n fails)) (later p i n _ fails more)
