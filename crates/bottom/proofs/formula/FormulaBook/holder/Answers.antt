use Rattle.std.proofs.Common.{refl, ◌≡◌, cond, None, rules}
use Rattle.book.specs.Calls.{holds_standing}
use Rattle.book.specs.Lowest.{lowest}
use Rattle.book.proofs.Searches.{half_open, find_lowest}
use Rattle.bottom.specs.Ledger.{meaning_of}
use Rattle.bottom.proofs.formula.FormulaBook.holder.Goals as goal

pub returns : goal.returns
returns c =
    let m = meaning_of c.args.self.now.ledger in
    let first : c.find.result ≡ lowest (λ k. holds_standing m c.args.link c.args.step (m.windows k)) 1 256 = find_lowest 256 (λ k. holds_standing m c.args.link c.args.step (m.windows k)) _ (half_open 256 _ refl refl) c.find.result c.find.ensures.runs (search rules) (λ x low high b called. search rules) in
    λ i. cond (c.if-not-is_link.ensures i) (first i) None
