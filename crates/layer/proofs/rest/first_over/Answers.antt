use Rattle.std.proofs.Common.{◌≡◌, ◌+◌, true, ltb, rules, arith}
use Rattle.std.proofs.lemmas.Bool.Decides.{nat_tests}
use Rattle.book.specs.Meaning.{linked}
use Rattle.book.proofs.Searches.{inclusive, find_lowest}
use Rattle.layer.specs.Links.{value_at}
use Rattle.layer.proofs.rest.first_over.Goals as goal

pub returns : goal.returns
returns g c = λ keeps.
    let m = g.B.Book.meaning c.args.below.now in
    find_lowest 32 (λ l. ltb 1000000 (m.rest l + value_at c.args.extra.now l)) _ (inclusive 32 _ c.new.ensures.start c.new.ensures.end c.new.ensures.exhausted) c.find.result c.find.ensures.runs (search rules) (λ x low high b called. let link : linked x ≡ true = grind (arith, nat_tests) in search rules)
