use Rattle.std.proofs.Common.{◌≡◌, Ok, sym, refl, ap, ◌∙◌, arith}
use Rattle.std.proofs.lemmas.Grind.{common_steps}
use Rattle.bookrun.specs.Performing.{book_reply, lift_reply, find_reply, held_reply}
use Rattle.bookrun.proofs.Replying.{refusing, book_replied, lift_replied, find_replied, held_replied, span_replied}
use Rattle.bookrun.proofs.perform.perform.Goals as goal

pub returns-in_err-book-in-Book : goal.returns-in_err-book-in-Book
returns-in_err-book-in-Book g c = λ keeps.
    book_replied _ _ c.args.call _ _ c.in-Book.number c.in-Book.window c.book.result c.in-Book.is (refusing c.from_residual.result _ c.from_residual.ensures ∙ ap book_reply (sym c.in_err-book-in-Book.was)) (c.book.ensures.steps keeps)

pub returns-in_ok-book-in-Book : goal.returns-in_ok-book-in-Book
returns-in_ok-book-in-Book g c = λ keeps.
    book_replied _ _ c.args.call _ _ c.in-Book.number c.in-Book.window c.book.result c.in-Book.is (ap book_reply (sym c.in_ok-book-in-Book.was)) (c.book.ensures.steps keeps)

pub returns-in_err-lift-in-Lift : goal.returns-in_err-lift-in-Lift
returns-in_err-lift-in-Lift g c = λ keeps.
    lift_replied _ _ c.args.call _ _ c.in-Lift.number c.lift.result c.in-Lift.is (refusing c.from_residual-in_err-lift-in-Lift.result _ c.from_residual-in_err-lift-in-Lift.ensures ∙ ap lift_reply (sym c.in_err-lift-in-Lift.was)) (c.lift.ensures keeps)

pub returns-in_ok-lift-in-Lift : goal.returns-in_ok-lift-in-Lift
returns-in_ok-lift-in-Lift g c = λ keeps.
    lift_replied _ _ c.args.call _ _ c.in-Lift.number c.lift.result c.in-Lift.is (ap lift_reply (sym c.in_ok-lift-in-Lift.was)) (c.lift.ensures keeps)

pub returns-in-Find : goal.returns-in-Find
returns-in-Find g c = λ keeps.
    let replies : Ok c.map.result ≡ find_reply c.find.result = grind (arith, common_steps) in
    find_replied _ _ c.args.call _ c.in-Find.number c.find.result c.in-Find.is replies (c.find.ensures keeps) keeps

pub returns-in-Held : goal.returns-in-Held
returns-in-Held g c = λ keeps.
    let replies : Ok c.map-in-Held.result ≡ held_reply c.held.result = grind (arith, common_steps) in
    held_replied _ _ c.args.call _ c.in-Held.link c.in-Held.step c.from.result c.held.result c.in-Held.is c.from.ensures replies (c.held.ensures.answer keeps) keeps

pub returns-in-Span : goal.returns-in-Span
returns-in-Span g c = λ keeps. span_replied _ _ c.args.call _ c.in-Span.link c.span.result c.in-Span.is refl (c.span.ensures keeps) keeps
