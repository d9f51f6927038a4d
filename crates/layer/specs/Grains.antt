-- The grain layer: each link has a grain, and a step of the layer is that many steps of the book below.
use Rattle.std.specs.Prelude.{◌≡◌, ℕ, ◌+◌, ◌*◌, ◌/◌, ◌%◌, min, cond, ◌&&◌, Result, ◌==◌, nat_lt}
use Rattle.std.specs.Option.{option_map}
use Rattle.book.specs.Meaning.{Meaning}
use Rattle.book.specs.Sound.{EachStanding}
use Rattle.book.specs.declared.MakeFault.{MakeFault}
use Rattle.book.specs.declared.Window.{Window}
use Rattle.layer.specs.Vacancy.{vacant}

-- n over a grain, rounded up
abbrev pub rounded_up : ℕ → ℕ → ℕ
rounded_up n grain = n / grain + min 1 (n % grain)

-- a cycle in steps of a grain; 0 where the grain is 0 or leaves a remainder
abbrev pub coarse_cycle : ℕ → ℕ → ℕ
coarse_cycle grain cycle = cond (nat_lt 0 grain && cycle % grain == 0) (cycle / grain) 0

-- a rest in steps of a grain, rounded up; 0 where the link, with this cycle, is absent
abbrev pub coarse_rest : ℕ → ℕ → ℕ → ℕ
coarse_rest grain cycle rest = cond (nat_lt 0 (coarse_cycle grain cycle)) (rounded_up rest grain) 0

-- a window as the book below has it: start, length and period times the grain of its link
abbrev pub finer : (ℕ → ℕ) → Window → Window
finer grain w = record { link = w.link; start = w.start * grain w.link; length = w.length * grain w.link; period = w.period * grain w.link }

-- and a window of the book below in steps of the grain
abbrev pub coarser : (ℕ → ℕ) → Window → Window
coarser grain w = record { link = w.link; start = w.start / grain w.link; length = w.length / grain w.link; period = w.period / grain w.link }

-- what the layer means over a book that means m
abbrev pub grain_meaning : (ℕ → ℕ) → Meaning → Meaning
grain_meaning grain m = record { windows = λ k. option_map (coarser grain) (m.windows k); cycle = λ l. coarse_cycle (grain l) (m.cycle l); rest = λ l. coarse_rest (grain l) (m.cycle l) (m.rest l) }

-- the start, the length and the period of a window are whole steps of the grain
pub record Whole (grain : ℕ) (w : Window) : Type 0 where
  pub start : w.start % grain ≡ 0
  pub length : w.length % grain ≡ 0
  pub period : w.period % grain ≡ 0

-- whatever window the book below has is one of whole steps
abbrev pub GrainTied : (ℕ → ℕ) → Meaning → Type 0
GrainTied grain m = EachStanding m (λ w. Whole (grain w.link) w)

-- whether the layer can be made over a book that means m: the book has no windows
abbrev pub can_make_grain : Meaning → Result (Unit {0}) MakeFault
can_make_grain m = vacant m
