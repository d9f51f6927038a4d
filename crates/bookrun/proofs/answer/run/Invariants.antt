use Rattle.std.proofs.Common.{Some}
use Rattle.bookrun.specs.Journals.{Records}
use Rattle.bookrun.proofs.Telling.{Sofar}
use Rattle.bookrun.proofs.answer.run.Given as goal

-- the lines so far are answered by the book
abbrev pub invariant-loop-line : goal.invariant-loop-line
invariant-loop-line g l =
    g.B.Book.keeps l.initial.book →
    (before : _) → Records before l.fn.journal →
    Sofar (Some (g.B.Book.meaning l.initial.book)) (Some (g.B.Book.meaning l.book)) l.fn.lines l.line-iterator before l.journal × g.B.Book.keeps l.book
