use Rattle.std.proofs.Common.{refl}
use Rattle.text.proofs.FirstLine.{lines_few}
use Rattle.text.proofs.lines.Lines.of.Goals as goal

pub returns : goal.returns
returns c = record { all = refl; few = lines_few c.args.text.now }
