use Rattle.std.proofs.lemmas.Result.{err_from_is_err_and}
use Rattle.book.specs.Calls.{book_answer, book_after}
use Rattle.book.specs.Steps.{Did}
use Rattle.book.proofs.Clashing.{clash_exactly}
use Rattle.book.proofs.Refusals.{refused_early}
use Rattle.book.proofs.Through.{through_sound, booked_through}
use Rattle.layer.proofs.layer.LayerBook.book.Goals as goal

pub returns-in_err-check : goal.returns-in_err-check
returns-in_err-check g c =
    let p = err_from_is_err_and c.from_residual.result c.from_residual.ensures.1 in
    let view = c.args.self.now.view in
    let below = c.args.self.now.below in
    let m = g.B.Book.meaning below in
    let both = refused_early (g.V.View.above view m) c.args.number c.args.window (g.B.Book.keeps below × g.V.View.tied view m) c.span.result c.from_residual.result p.0 _ (λ (keeps, tied). through_sound (g.met.V.View.through view m (g.met.B.Book.sound below keeps) tied)) c.span.ensures p.1 p.2 c.in_err-check.ensures in
    record { steps = both.0; clash = both.1 }

pub returns : goal.returns
returns g c =
    let view = c.args.self.now.view in
    let below = c.args.self.now.below in
    let m = g.B.Book.meaning below in
    let above = g.V.View.above view in
    let tied_to = g.V.View.tied view in
    let m' = g.B.Book.meaning c.book.new.self in
    let K' = g.B.Book.keeps c.book.new.self in
    let sound = g.met.B.Book.sound below in
    let through = λ (kept : g.B.Book.keeps below × tied_to m). g.met.V.View.through view m (sound kept.0) kept.1 in
    let did : g.B.Book.keeps below × tied_to m → Did c.book.result (book_answer c.args.number c.args.window (above m)) (above m') (book_after c.args.number c.args.window (above m)) (K' × tied_to m') = λ kept.
    booked_through above tied_to m m' (through kept) kept.1 K' c.args.number (g.met.V.View.replaced view m c.args.number) c.args.window c.down.result c.span.result c.book.result (c.span.ensures kept) c.in_ok-check.ensures c.down.ensures (g.met.V.View.put view m c.args.number c.args.window kept.1) (c.book.ensures.steps kept.0) in
    record {
      steps = did;
      clash = λ kept. clash_exactly (above m) c.args.number c.args.window c.book.result (through_sound (through kept)) (did kept).answer;
    }
