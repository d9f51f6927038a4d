use Rattle.std.proofs.Common.{is_some, ap, ◌∙◌}
use Rattle.std.proofs.lemmas.Result.{err_from_is_err_and}
use Rattle.book.proofs.Fitting.{unfit_early, unfit_late}
use Rattle.book.proofs.Refusals.{passed_on}
use Rattle.bottom.specs.Ledger.{meaning_of}
use Rattle.bottom.proofs.ledger.Ledger.unfit.Goals as goal

pub returns-in_err-check : goal.returns-in_err-check
returns-in_err-check c = λ kept.
    let p = err_from_is_err_and c.from_residual.result c.from_residual.ensures.1 in
    passed_on c.from_residual.result _ p.0 _ p.1 p.2 (unfit_early (meaning_of c.args.self.now) c.args.number c.args.window c.span-span.result _ (c.span-span.ensures kept) c.in_err-check.ensures)

pub returns-then-is_some : goal.returns-then-is_some
returns-then-is_some c = λ kept.
    unfit_late (meaning_of c.args.self.now) c.args.number c.args.window c.span-span.result _ (c.span-span.ensures kept) c.in_ok-check.ensures (c.if-is_some.ensures ∙ ap is_some c.find.ensures.stands)

pub returns : goal.returns
returns c = λ kept.
    unfit_late (meaning_of c.args.self.now) c.args.number c.args.window c.span-span.result _ (c.span-span.ensures kept) c.in_ok-check.ensures (c.if-is_some.ensures ∙ ap is_some c.find.ensures.stands)
