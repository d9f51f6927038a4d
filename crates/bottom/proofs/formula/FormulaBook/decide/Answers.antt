use Rattle.std.proofs.Common.{Some, None}
use Rattle.bottom.proofs.Grounds.{decided}
use Rattle.bottom.proofs.formula.FormulaBook.decide.Goals as goal

pub returns-in-None : goal.returns-in-None
returns-in-None c = λ kept. decided c.args.self.now.ledger c.args.number c.args.window None (c.in_ok-unfit.ensures kept) (c.in-None.ensures kept)

pub returns-in-Some : goal.returns-in-Some
returns-in-Some c = λ kept. decided c.args.self.now.ledger c.args.number c.args.window (Some c.in-Some.other) (c.in_ok-unfit.ensures kept) (c.in-Some.ensures kept)
