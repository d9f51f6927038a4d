-- The windows that a link may have.
use Rattle.std.specs.Prelude.{◌≡◌, ℕ, ◌+◌, ◌%◌, ◌<◌, ◌≤◌, Bool, ◌&&◌, ◌==◌, nat_le, nat_lt}
use Rattle.book.specs.declared.window.Window.{Window}

-- on a link with this cycle and this rest the window is of good form: it is not empty, its period divides the cycle, and it
-- ends, with the rest, within its period
pub record GoodForm (cycle rest : ℕ) (w : Window) : Type 0 where
  pub long : 0 < w.length
  pub again : 0 < w.period
  pub whole : cycle % w.period ≡ 0
  pub ends : w.start + w.length + rest ≤ w.period

-- whether it is
abbrev pub well_formed : ℕ → ℕ → Window → Bool
well_formed cycle rest w =
    nat_lt 0 w.length && (nat_lt 0 w.period && (cycle % w.period == 0 && nat_le (w.start + w.length + rest) w.period))
