-- A search through the numbers below another.
use Rattle.std.specs.Prelude.{ℕ, zero, suc, ◌<◌, Bool, false, ◌||◌, Decides, refl}
use Rattle.std.proofs.lemmas.Bool.Decides.{Decides-below_or}

-- whether p says true of some number below n
pub any_below : (ℕ → Bool) → ℕ → Bool
any_below p zero = false
any_below p (suc n) = p n || any_below p n

-- it does so exactly when there is such a number
pub any_below_lem : (p : ℕ → Bool) (P : ℕ → Type 0) → ((k : ℕ) → Decides (p k) (P k)) → (n : ℕ) → Decides (any_below p n) ((k : ℕ) × (k < n) × P k)
unfolding any_below
any_below_lem p P each n = Decides-below_or p P (any_below p) each refl (λ _. refl) n
