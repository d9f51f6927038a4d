use Rattle.std.proofs.Common.{refl, rules}
use Rattle.book.specs.Calls.{meets_standing}
use Rattle.book.proofs.Searches.{half_open, find_lowest}
use Rattle.bottom.specs.Ledger.{meaning_of}
use Rattle.bottom.proofs.formula.FormulaBook.first_met.Goals as goal

pub returns : goal.returns
returns c = λ kept suits.
    let m = meaning_of c.args.self.now.ledger in
    find_lowest 256 (λ k. meets_standing m c.args.window (m.windows k)) _ (half_open 256 _ refl refl) c.find.result c.find.ensures.runs (search rules) (λ x low high b called. search rules)
