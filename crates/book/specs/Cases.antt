-- The worked cases.
use Rattle.std.specs.Prelude.{ℕ, ◌<◌, List, [], ◌∷◌, Some, None, MatchOption}
use Rattle.book.specs.declared.cases.WorkedCase.{WorkedCase}
use Rattle.book.specs.declared.window.Window.{Window}
use Rattle.book.specs.Holding.{Holds, Meet}

-- both windows hold step s, and no earlier step
pub record MeetFirst (v w : Window) (s : ℕ) : Type 0 where
  pub one : Holds v 0 s
  pub other : Holds w 0 s
  pub first : (t : ℕ) → t < s → Holds v 0 t → Holds w 0 t → ⊥

-- the step of a case is the first that its windows both hold; where it has none, they never do
abbrev pub FirstMeeting : WorkedCase → Type 0
FirstMeeting c = MatchOption c.first (Meet 0 c.one c.other → ⊥) (MeetFirst c.one c.other)

-- a window of one step on link 1
abbrev pub one_step : ℕ → ℕ → Window
one_step start period = record { link = 1; start = start; length = 1; period = period }

-- periods 4 and 6: from 0 and 2 the windows meet first at step 8, from 1 and 2 never
abbrev pub worked_cases : List WorkedCase
worked_cases =
    record { one = one_step 0 4; other = one_step 2 6; first = Some 8 }
    ∷ (record { one = one_step 1 4; other = one_step 2 6; first = None } ∷ [])
