use Rattle.std.proofs.Common.{None, ◌∙◌}
use Rattle.std.specs.Option.{unwrap_or}
use Rattle.book.specs.Meaning.{linked}
use Rattle.layer.proofs.Alike.{given}
use Rattle.layer.proofs.per_link.PerLink.all.Goals as goal

pub returns : goal.returns
returns c = (λ i l. unwrap_or (c.all.ensures i l) 0) ∙ (λ i l. given (linked l) c.args.value None i)
