use Rattle.std.proofs.Common.{string_bytes}
use Rattle.std.specs.Iterator.Adapters.{enumerate_source, enumerate_count}
use Rattle.text.specs.Lines.{lines}
use Rattle.frames.proofs.Turns.{Sofar}
use Rattle.frames.proofs.answer.answer_lines.Given as goal

abbrev pub invariant-loop-before : goal.invariant-loop-before
invariant-loop-before l =
    (goal.iterator-loop-before).can_next l.before-iterator
    × (goal.iterator-loop-before).is_finite l.before-iterator
    × Sofar (lines l.input) (enumerate_source l.before-iterator) (enumerate_count l.before-iterator) (string_bytes l.initial.out) (string_bytes l.out) l.tally
