-- What a book means.
use Rattle.std.specs.Prelude.{ℕ, Bool, cond, ◌&&◌, None, Option, ◌==◌, nat_le, nat_lt}
use Rattle.book.specs.declared.window.Window.{Window}

-- the window of each number, or none; the cycle of each link in steps, 0 where the link is absent; and its rest, the steps for
-- which it is still held after each window
pub record Meaning : Type 0 where
  pub windows : ℕ → Option Window
  pub cycle : ℕ → ℕ
  pub rest : ℕ → ℕ

-- the numbers that a window may have
abbrev pub numbered : ℕ → Bool
numbered n = nat_le 1 n && nat_le n 256

-- the numbers that a link may have
abbrev pub linked : ℕ → Bool
linked l = nat_le 1 l && nat_le l 32

-- whether a link is there
abbrev pub present : Meaning → ℕ → Bool
present m l = linked l && nat_lt 0 (m.cycle l)

-- the same windows, but for what stands under number n
abbrev pub replaced : ℕ → Option Window → (ℕ → Option Window) → ℕ → Option Window
replaced n o windows k = cond (k == n) o (windows k)

-- the same book, but for what stands under number n
abbrev pub with : ℕ → Option Window → Meaning → Meaning
with n o m = record { windows = replaced n o m.windows; cycle = m.cycle; rest = m.rest }

-- a book without windows
abbrev pub empty : (ℕ → ℕ) → (ℕ → ℕ) → Meaning
empty cycle rest = record { windows = λ _. None; cycle = cycle; rest = rest }
