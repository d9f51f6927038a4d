use Rattle.std.proofs.Common.{◌≡◌, ◌%◌, ◌<◌, ◌^◌, sym, ap, ◌∙◌, mod-lt, arith, rules}
use Rattle.book.specs.Calls.{held_answer}
use Rattle.book.proofs.Holders.{held_exactly, absent_held}
use Rattle.book.proofs.Through.{through_sound, through_held, held_through}
use Rattle.layer.proofs.layer.LayerBook.held.Goals as goal

pub returns-in_err-place : goal.returns-in_err-place
returns-in_err-place g c =
    let view = c.args.self.now.view in
    let below = c.args.self.now.below in
    let m = g.B.Book.meaning below in
    let above = g.V.View.above view m in
    let sound = λ (kept : g.B.Book.keeps below × g.V.View.tied view m). through_sound (g.met.V.View.through view m (g.met.B.Book.sound below kept.0) kept.1) in
    let is : g.B.Book.keeps below × g.V.View.tied view m → c.from_residual.result ≡ held_answer c.args.link c.args.step above = λ kept.
    c.from_residual.ensures ∙ sym (absent_held above (sound kept) c.args.link c.args.step c.span-cycle.result (c.span-cycle.ensures kept) (omega (arith, c.from.ensures, c.in_err-place.ensures))) in
    record { answer = is; exact = λ kept. held_exactly above (sound kept) c.args.link c.args.step c.from_residual.result (is kept) }

pub returns-in-Some : goal.returns-in-Some
returns-in-Some g c =
    let view = c.args.self.now.view in
    let below = c.args.self.now.below in
    let m = g.B.Book.meaning below in
    let above = g.V.View.above view m in
    let through = λ (kept : g.B.Book.keeps below × g.V.View.tied view m). g.met.V.View.through view m (g.met.B.Book.sound below kept.0) kept.1 in
    let lower : c.in-Some.below ≡ g.V.View.step_below view c.args.link c.args.step = search rules in
    let is : g.B.Book.keeps below × g.V.View.tied view m → c.held.result ≡ held_answer c.args.link c.args.step above = λ kept.
    c.held.ensures.answer kept.0 ∙ ap (λ x. held_answer c.args.link x m) lower ∙ through_held (through kept) c.args.link c.args.step in
    record { answer = is; exact = λ kept. held_exactly above (through_sound (through kept)) c.args.link c.args.step c.held.result (is kept) }

pub returns : goal.returns
returns g c =
    let view = c.args.self.now.view in
    let below = c.args.self.now.below in
    let m = g.B.Book.meaning below in
    let above = g.V.View.above view m in
    let through = λ (kept : g.B.Book.keeps below × g.V.View.tied view m). g.met.V.View.through view m (g.met.B.Book.sound below kept.0) kept.1 in
    let cycle = c.span-cycle.result.cycle in
    let some : 0 < cycle = omega (arith, c.from.ensures, c.in_ok-place.ensures.0) in
    let place : c.in_ok-place.place ≡ c.args.step % cycle = search rules in
    let small : c.in_ok-place.place < 2 ^ 32 = omega (arith, place, mod-lt c.args.step some, c.span-cycle.type_inv) in
    let is : g.B.Book.keeps below × g.V.View.tied view m → c.held-2.result ≡ held_answer c.args.link c.args.step above = λ kept.
    held_through (through kept) c.args.link c.args.step c.in_ok-place.place c.step_below.result c.span-cycle.result c.held-2.result (c.span-cycle.ensures kept) some place (c.step_below.ensures small) (c.held-2.ensures.answer kept.0) in
    record { answer = is; exact = λ kept. held_exactly above (through_sound (through kept)) c.args.link c.args.step c.held-2.result (is kept) }
