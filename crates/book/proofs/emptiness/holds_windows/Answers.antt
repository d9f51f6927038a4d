use Rattle.std.proofs.Common.{◌≡◌, is_some, ◌∙◌, rules, ap}
use Rattle.book.specs.Calls.{holds_windows, find_answer}
use Rattle.book.proofs.NoWindows.{found_window, some_decides}
use Rattle.book.proofs.Searches.{inclusive, any_lowest}
use Rattle.book.proofs.emptiness.holds_windows.Goals as goal

pub returns : goal.returns
returns g c =
    let m = g.B.Book.meaning c.args.book.now in
    let is : g.B.Book.keeps c.args.book.now → c.any.result ≡ holds_windows m = λ keeps.
    any_lowest 256 (λ k. is_some (m.windows k)) _ (inclusive 256 _ c.new.ensures.start c.new.ensures.end c.new.ensures.exhausted) c.any.result c.any.ensures.runs (search rules) (λ x low high b called. let is : b ≡ is_some (find_answer x m) = search rules in is ∙ ap is_some (found_window m x low high)) in
    record { value = is; exact = λ keeps. some_decides m c.any.result (g.met.B.Book.sound c.args.book.now keeps) (is keeps) }
