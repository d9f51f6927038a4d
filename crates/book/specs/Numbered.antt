-- A value for each number from 1 to a last one.
use Rattle.std.specs.Prelude.{ℕ, ◌-◌, Bool, cond, ◌&&◌, Some, None, Option, ◌==◌, nat_le, slice_get}
use Rattle.book.specs.declared.numbered.Numbered.{Numbered}

-- the numbers from 1 to the last
abbrev pub within : ℕ → ℕ → Bool
within last k = nat_le 1 k && nat_le k last

-- the value of each number, none for any other; the first place is that of number 1
abbrev pub value_at : {T : Type 0} {last : ℕ} → Numbered T last → ℕ → Option T
value_at {last = last} p k = cond (within last k) (slice_get p.values (k - 1)) None

-- the same value for every number
abbrev pub alike : {T : Type 0} → ℕ → T → ℕ → Option T
alike last value k = cond (within last k) (Some value) None

-- the same values, but for that of one number
abbrev pub changed_at : {T : Type 0} → ℕ → ℕ → T → (ℕ → Option T) → ℕ → Option T
changed_at last n value values k = cond (within last k && k == n) (Some value) (values k)
