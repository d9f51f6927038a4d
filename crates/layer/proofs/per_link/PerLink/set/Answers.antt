use Rattle.std.proofs.Common.{◌&&◌, eqb, ◌∙◌}
use Rattle.std.specs.Option.{unwrap_or}
use Rattle.book.specs.Meaning.{linked}
use Rattle.book.specs.Numbered as numbered
use Rattle.layer.proofs.Alike.{given}
use Rattle.layer.proofs.per_link.PerLink.set.Goals as goal

pub returns : goal.returns
returns c =
    (λ i k. unwrap_or (c.set.ensures i k) 0)
    ∙ (λ i k. given (linked k && eqb k c.args.link) c.args.value (numbered.value_at c.args.self.now.values k) i)
