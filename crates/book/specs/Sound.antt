-- What holds of every book.
use Rattle.std.specs.Prelude.{◌≡◌, ℕ, ◌<◌, ◌≤◌, true, Some, Ok, Err, Option, Result, ◌≢◌}
use Rattle.book.specs.declared.fault.BookFault.{BookFault}
use Rattle.book.specs.declared.fault.BookFault.TheVariants.{Clash}
use Rattle.book.specs.declared.window.Window.{Window}
use Rattle.book.specs.Calls.{unfit}
use Rattle.book.specs.Form.{GoodForm}
use Rattle.book.specs.Holding.{Holds, Meet}
use Rattle.book.specs.Meaning.{Meaning, numbered, present}

-- window w stands under number n
abbrev pub Stands : Meaning → ℕ → Window → Type 0
Stands m n w = m.windows n ≡ Some w

-- some window stands
abbrev pub SomeStands : Meaning → Type 0
SomeStands m = (n : ℕ) × ((w : Window) × Stands m n w)

-- whatever window stands is one of P
abbrev pub EachStanding : Meaning → (Window → Type 0) → Type 0
EachStanding m P = (n : ℕ) (w : Window) → Stands m n w → P w

-- the link of window w is there, and w is of good form on it
pub record Suits (m : Meaning) (w : Window) : Type 0 where
  pub link : present m w.link ≡ true
  pub form : GoodForm (m.cycle w.link) (m.rest w.link) w

-- a standing window has one of the 256 numbers and suits its link
pub record Proper (m : Meaning) (n : ℕ) (w : Window) : Type 0 where
  pub number : numbered n ≡ true
  pub suits : Suits m w

-- no two standing windows of one link ever hold one step
abbrev pub Apart : Meaning → Type 0
Apart m =
    (i j : ℕ) (v w : Window) → (i ≢ j) → Stands m i v → Stands m j w → v.link ≡ w.link →
    (s : ℕ) → Holds v (m.rest v.link) s → Holds w (m.rest w.link) s → ⊥

-- cycles and rests are at most 1,000,000 steps, standing windows are proper, and no two of them ever hold one step
pub record Sound (m : Meaning) : Type 0 where
  pub cycles : (l : ℕ) → m.cycle l ≤ 1000000
  pub rests : (l : ℕ) → m.rest l ≤ 1000000
  pub proper : (n : ℕ) (w : Window) → Stands m n w → Proper m n w
  pub apart : Apart m

-- window w would meet the standing window of number k, at some step of unbounded time
abbrev pub WouldMeet : Meaning → Window → ℕ → Type 0
WouldMeet m w k = (v : Window) × (Stands m k v × ((v.link ≡ w.link) × Meet (m.rest w.link) v w))

-- a refusal as a clash names the lowest number whose window w would meet, and no earlier cause fits
pub record Clashes (m : Meaning) (n : ℕ) (w : Window) (k : ℕ) : Type 0 where
  pub fits : unfit n w m ≡ Ok tt
  pub meets : WouldMeet m w k
  pub lowest : (j : ℕ) → j < k → WouldMeet m w j → ⊥

-- the call is refused as a clash exactly when no earlier cause fits and the window would meet another
pub record ClashExactly (m : Meaning) (n : ℕ) (w : Window) (r : Result (Unit {0}) BookFault) : Type 0 where
  pub refused : (i k : ℕ) → r ≡ Err (Clash i k) → (i ≡ n) × Clashes m n w k
  pub refuses : unfit n w m ≡ Ok tt → (k : ℕ) → WouldMeet m w k → (j : ℕ) × (r ≡ Err (Clash n j))

-- the window of number k is one of link l and holds step s
abbrev pub HoldsAt : Meaning → ℕ → ℕ → ℕ → Type 0
HoldsAt m l s k = (w : Window) × (Stands m k w × ((w.link ≡ l) × Holds w (m.rest l) s))

-- a number is answered exactly when its window holds the step
abbrev pub HeldExactly : Meaning → ℕ → ℕ → Option ℕ → Type 0
HeldExactly m l s r = (k : ℕ) → (r ≡ Some k → HoldsAt m l s k) × (HoldsAt m l s k → r ≡ Some k)
