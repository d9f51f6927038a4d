-- A search through one cycle finds a meeting exactly when there is one in unbounded time.
use Rattle.std.proofs.Common.{ℕ, ◌+◌, ◌*◌, ◌/◌, ◌%◌, ◌<◌, Decides, sym, subst, mod-lt, arith}
use Rattle.std.proofs.lemmas.Bool.Decides.{Decides-and, Decides-like}
use Rattle.book.specs.declared.window.Window.{Window}
use Rattle.book.specs.Below.{any_below_lem}
use Rattle.book.specs.Form.{GoodForm}
use Rattle.book.specs.Holding.{Holds, Meet, holds, meets}
use Rattle.book.proofs.Times.{among_decides, earlier, later, in_cycle}

pub holds_decides : (w : Window) (rest s : ℕ) → Decides (holds w rest s) (Holds w rest s)
holds_decides w rest s = among_decides w.start w.period (w.length + rest) s

-- a window of good form holds the same steps in every cycle
pub in_first_cycle : (w : Window) (cycle rest s : ℕ) → GoodForm cycle rest w → Holds w rest s → Holds w rest (s % cycle)
in_first_cycle w cycle rest s good held =
    let p = w.period in
    let n = s / cycle * (cycle / p) in
    let At : ℕ → Type 0 = Holds w rest in
    earlier w.start p (w.length + rest) n (s % cycle) (omega (arith, good.ends)) (subst At (in_cycle cycle p s good.whole) held)

pub in_each_cycle : (w : Window) (cycle rest s : ℕ) → GoodForm cycle rest w → Holds w rest (s % cycle) → Holds w rest s
in_each_cycle w cycle rest s good held =
    let p = w.period in
    let n = s / cycle * (cycle / p) in
    let At : ℕ → Type 0 = Holds w rest in
    subst At (sym (in_cycle cycle p s good.whole)) (later w.start p (w.length + rest) n (s % cycle) held)

pub meets_decides : (v w : Window) (cycle rest : ℕ) → 0 < cycle → GoodForm cycle rest v → GoodForm cycle rest w → Decides (meets cycle rest v w) (Meet rest v w)
meets_decides v w cycle rest some good_v good_w =
    Decides-like _
    (λ found. (found.0, found.2))
    (λ met. (met.0 % cycle, mod-lt met.0 some, (in_first_cycle v cycle rest met.0 good_v met.1.0, in_first_cycle w cycle rest met.0 good_w met.1.1)))
    (any_below_lem _ (λ s. Holds v rest s × Holds w rest s) (λ s. Decides-and _ _ (holds_decides v rest s) (holds_decides w rest s)) cycle)
