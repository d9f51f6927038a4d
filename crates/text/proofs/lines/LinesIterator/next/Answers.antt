use Rattle.std.proofs.Common.{◌≡◌, ◌<◌, ◌∷◌, List, ℕ, length, ap, ◌∙◌, arith, false-eqb, sym}
use Rattle.std.proofs.lemmas.Grind.{common_steps}
use Rattle.text.specs.Lines.{lines}
use Rattle.text.proofs.FirstLine.{lines_first}
use Rattle.text.proofs.lines.LinesIterator.next.Goals as goal

pub returns : goal.returns
returns c =
    let bs = c.self.inside.rest.now in
    let some : 0 < length bs = omega (arith, false-eqb _ 0 c.if-is_empty.ensures) in
    let first : c.args.self.now ≡ c.cut_line.result.0.now ∷ lines c.cut_line.result.1.now = sym c.self.view_is ∙ lines_first bs some ∙ (λ i. sym c.cut_line.ensures.first i ∷ lines (sym c.cut_line.ensures.rest i)) in
    record { steps = first; goes = let shorter = ap (length {A = List ℕ}) first in grind (arith, common_steps) }
