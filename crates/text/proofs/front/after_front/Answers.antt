use Rattle.std.proofs.lemmas.Slice.Eq.{strip_prefix_is}
use Rattle.text.proofs.Fronts.{found_after}
use Rattle.text.proofs.front.after_front.Goals as goal
use Rattle.std.proofs.lemmas.Bool.Decides.{Decides-eqb}

pub returns : goal.returns
returns c =
    let bs = c.args.text.now in
    let p = c.args.front.now in
    let r = c.strip_prefix.result in
    found_after bs p r (strip_prefix_is Decides-eqb bs p r c.strip_prefix.ensures.cases)
