use Rattle.layer.specs.Links.{value_at}
use Rattle.layer.proofs.Alike.{none_outside}
use Rattle.layer.proofs.Made.{rest_made}
use Rattle.layer.proofs.rest.Layer+B+Extra.new.Goals as goal

pub returns-clause-kept : goal.returns-clause-kept
returns-clause-kept g c = λ keeps can. c.over.ensures.kept keeps (rest_made (value_at c.args.extra) (g.B.Book.meaning c.args.below) (g.met.B.Book.sound c.args.below keeps) (none_outside c.args.extra) can)
