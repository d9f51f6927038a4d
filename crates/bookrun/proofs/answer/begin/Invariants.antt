use Rattle.std.proofs.Common.{[], None}
use Rattle.bookrun.proofs.Telling.{Sofar}
use Rattle.bookrun.proofs.answer.begin.Given as goal

-- the lines so far are answered, and there is no book
abbrev pub invariant-loop-line : goal.invariant-loop-line
invariant-loop-line l =
    (goal.iterator-loop-line).can_next l.lines
    × (goal.iterator-loop-line).is_finite l.lines
    × Sofar None None l.initial.lines l.lines [] l.journal
