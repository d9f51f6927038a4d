use Rattle.std.proofs.Common.{rules}
use Rattle.book.proofs.Clashing.{clash_exactly}
use Rattle.bottom.specs.Ledger.{meaning_of}
use Rattle.bottom.proofs.Grounds.{booked}
use Rattle.bottom.proofs.formula.FormulaBookBook.book.Goals as goal

pub returns-in_err-decide-clause-clash : goal.returns-in_err-decide-clause-clash
returns-in_err-decide-clause-clash c = λ kept. clash_exactly (meaning_of c.args.self.now.ledger) c.args.number c.args.window c.from_residual.result kept.sound (search rules)

pub returns : goal.returns
returns c =
    let l = c.args.self.now.ledger in
    record {
      steps = λ kept. booked l c.set.new.self c.args.number c.args.window (c.in_ok-decide.ensures kept) c.set.ensures.means c.set.ensures.ground kept;
      clash = λ kept. clash_exactly (meaning_of l) c.args.number c.args.window _ kept.sound (c.in_ok-decide.ensures kept);
    }
