-- What a ledger means: its windows on links 1 to n, which all have one cycle and no rest.
use Rattle.std.specs.Prelude.{ℕ, ◌≤◌, cond, ◌&&◌, Ok, Err, Option, Result, nat_le}
use Rattle.std.specs.Option.{option_flatten}
use Rattle.book.specs.Meaning.{Meaning, empty}
use Rattle.book.specs.Numbered.{value_at}
use Rattle.book.specs.Sound.{Sound}
use Rattle.book.specs.declared.BookFault.{BookFault}
use Rattle.book.specs.declared.BookFault.TheVariants.{Absent}
use Rattle.book.specs.declared.Numbered.{Numbered}
use Rattle.book.specs.declared.Window.{Window}
use Rattle.bottom.specs.declared.ledger.Ledger.{Ledger}

-- the cycle of links 1 to n, and 0 for any other
abbrev pub cycle_of : ℕ → ℕ → ℕ → ℕ
cycle_of links cycle l = cond (nat_le 1 l && nat_le l links) cycle 0

-- no link has a rest
abbrev pub no_rest : ℕ → ℕ
no_rest l = 0

-- the window that stands under each number
abbrev pub windows_of : Numbered (Option Window) 256 → ℕ → Option Window
windows_of w n = option_flatten (value_at w n)

abbrev pub meaning_of : Ledger → Meaning
meaning_of l = record { windows = windows_of l.windows; cycle = cycle_of l.ground.links l.ground.cycle; rest = no_rest }

-- the ledger has at most 32 links, and what it means is sound
pub record Kept (l : Ledger) : Type 0 where
  pub links : l.ground.links ≤ 32
  pub sound : Sound (meaning_of l)

-- whether a book with so many links, all of one cycle, can be made: 0 to 32 links, and a cycle of 1 to 1,000,000 steps
abbrev pub can_make : ℕ → ℕ → Result (Unit {0}) BookFault
can_make links cycle = cond (nat_le links 32 && (nat_le 1 cycle && nat_le cycle 1000000)) (Ok tt) (Err Absent)

-- such a book without windows
abbrev pub ground : ℕ → ℕ → Meaning
ground links cycle = empty (cycle_of links cycle) no_rest
