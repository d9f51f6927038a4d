-- The rest layer: each link has an extra rest, which the book below sees as part of the windows.
use Rattle.std.specs.Prelude.{ℕ, ◌+◌, ◌-◌, ◌<◌, ◌≤◌, Some, None, Ok, Err, Option, Result, nat_lt}
use Rattle.std.specs.Option.{option_map}
use Rattle.std.specs.Result.{result_and}
use Rattle.book.specs.Lowest.{lowest}
use Rattle.book.specs.Meaning.{Meaning}
use Rattle.book.specs.Sound.{EachStanding}
use Rattle.book.specs.declared.MakeFault.{MakeFault}
use Rattle.book.specs.declared.MakeFault.TheVariants.{RestTooGreat}
use Rattle.book.specs.declared.Window.{Window}
use Rattle.layer.specs.Vacancy.{vacant}

-- a window as the book below has it: longer by the extra of its link
abbrev pub longer : (ℕ → ℕ) → Window → Window
longer extra w = record { link = w.link; start = w.start; length = w.length + extra w.link; period = w.period }

-- and a window of the book below without the extra
abbrev pub shorter : (ℕ → ℕ) → Window → Window
shorter extra w = record { link = w.link; start = w.start; length = w.length - extra w.link; period = w.period }

-- what the layer means over a book that means m: the windows without the extra, and a rest that is greater by it
abbrev pub rest_meaning : (ℕ → ℕ) → Meaning → Meaning
rest_meaning extra m = record { windows = λ k. option_map (shorter extra) (m.windows k); cycle = m.cycle; rest = λ l. m.rest l + extra l }

-- no rest is too great, and whatever window the book below has is longer than the extra
pub record RestTied (extra : ℕ → ℕ) (m : Meaning) : Type 0 where
  pub limits : (l : ℕ) → m.rest l + extra l ≤ 1000000
  pub longer : EachStanding m (λ w. extra w.link < w.length)

-- the first link whose rest would be above 1,000,000
abbrev pub first_over : (ℕ → ℕ) → Meaning → Option ℕ
first_over extra m = lowest (λ l. nat_lt 1000000 (m.rest l + extra l)) 1 32

-- a link whose rest is too great, if any
abbrev pub within : Option ℕ → Result (Unit {0}) MakeFault
within None = Ok tt
within (Some l) = Err (RestTooGreat l)

-- whether the layer can be made over a book that means m: no rest is too great, and then the book has no windows
abbrev pub can_make_rest : (ℕ → ℕ) → Meaning → Result (Unit {0}) MakeFault
can_make_rest extra m = result_and (within (first_over extra m)) (vacant m)
