use Rattle.std.proofs.Common.{refl}
use Rattle.bookrun.proofs.Telling.{told}
use Rattle.bookrun.proofs.journal.Journal.write.Goals as goal

pub returns-clause-records : goal.returns-clause-records
returns-clause-records c = λ before records. told before records c.args.reply c.in_ok-writeln.ensures.bytes c.count.ensures refl
