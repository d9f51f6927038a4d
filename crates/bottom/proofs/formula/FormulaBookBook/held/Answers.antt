use Rattle.book.proofs.Holders.{held_exactly}
use Rattle.bottom.specs.Ledger.{meaning_of}
use Rattle.bottom.proofs.formula.FormulaBookBook.held.Goals as goal

pub returns-clause-exact : goal.returns-clause-exact
returns-clause-exact c = λ kept. held_exactly (meaning_of c.args.self.now.ledger) kept.sound c.args.link c.args.step c.holder.result c.holder.ensures
