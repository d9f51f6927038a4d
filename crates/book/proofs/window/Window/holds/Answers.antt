use Rattle.std.proofs.Common.{rules}
use Rattle.std.proofs.lemmas.Bool.Decides.{Decides-at}
use Rattle.book.proofs.Unbounded.{holds_decides}
use Rattle.book.proofs.window.Window.holds.Goals as goal

pub returns-clause-always : goal.returns-clause-always
returns-clause-always c = Decides-at _ _ (search rules) (holds_decides c.args.self c.args.rest c.args.step)
