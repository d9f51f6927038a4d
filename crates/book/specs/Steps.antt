-- What a call that may change a state promises.
use Rattle.std.specs.Prelude.{◌≡◌}

-- the call answered r, as r₀ says, the state now means m, as m₀ says, and keeps it
pub record Did {R M : Type 0} (r r₀ : R) (m m₀ : M) (Kept : Type 0) : Type 0 where
  pub answer : r ≡ r₀
  pub after : m ≡ m₀
  pub kept : Kept

-- where the state keeps its meaning at the entry, the answer and the meaning at the exit are those defined for the meaning at
-- the entry, and the state keeps it still
abbrev pub Steps : {S R M : Type 0} → (S → M) → (S → Type 0) → (M → R) → (M → M) → S → S → R → Type 0
Steps meaning keeps answer after entry exit r = keeps entry → Did r (answer (meaning entry)) (meaning exit) (after (meaning entry)) (keeps exit)
