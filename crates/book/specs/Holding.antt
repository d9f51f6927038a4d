-- Which steps a window holds, and when two windows meet.
use Rattle.std.specs.Prelude.{ℕ, ◌+◌, ◌-◌, ◌*◌, ◌%◌, ◌<◌, ◌≤◌, Bool, ◌&&◌, nat_le, nat_lt}
use Rattle.book.specs.declared.window.Window.{Window}
use Rattle.book.specs.Below.{any_below}

-- a window on a link with this rest holds step s: its length and the rest, from its start and again every period,
-- without end
abbrev pub Holds : Window → ℕ → ℕ → Type 0
Holds w rest s = (k : ℕ) × ((w.start + k * w.period ≤ s) × (s < w.start + k * w.period + (w.length + rest)))

-- two windows of a link with this rest meet: both hold one step, however late
abbrev pub Meet : ℕ → Window → Window → Type 0
Meet rest v w = (s : ℕ) × (Holds v rest s × Holds w rest s)

-- whether a window holds step s, by the time since its start
abbrev pub holds : Window → ℕ → ℕ → Bool
holds w rest s = nat_le w.start s && nat_lt ((s - w.start) % w.period) (w.length + rest)

-- whether two windows meet in the first cycle of their link
abbrev pub meets : ℕ → ℕ → Window → Window → Bool
meets cycle rest v w = any_below (λ s. holds v rest s && holds w rest s) cycle
