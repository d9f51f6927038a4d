use Rattle.layer.specs.Links.{value_at}
use Rattle.layer.proofs.Made.{grain_made}
use Rattle.layer.proofs.grain.Layer+B+Grain.new.Goals as goal

pub returns-clause-kept : goal.returns-clause-kept
returns-clause-kept g c = λ keeps can. c.over.ensures.kept keeps (grain_made (value_at c.args.grain) (g.B.Book.meaning c.args.below) (g.met.B.Book.sound c.args.below keeps) can)
