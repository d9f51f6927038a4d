-- Steps from one number to the remainder of another.
use Rattle.std.specs.Prelude.{◌≡◌, ℕ, ◌+◌, ◌%◌, ◌<◌}

-- r is the number of steps, fewer than g, from a to a number that leaves the remainder of b by g
pub record Leads (a b g r : ℕ) : Type 0 where
  pub below : r < g
  pub there : (a + r) % g ≡ b % g
