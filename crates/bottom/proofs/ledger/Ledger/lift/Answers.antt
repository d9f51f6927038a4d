use Rattle.std.proofs.Common.{sym, ◌∙◌, rules}
use Rattle.bottom.proofs.Grounds.{lifted}
use Rattle.bottom.proofs.ledger.Ledger.lift.Goals as goal

pub returns : goal.returns
returns c =
    let number = sym c.if-not-is_window.ensures in
    lifted c.args.self.now c.set.new.self c.args.number c.in_ok-window.window number (sym c.find.ensures.stands ∙ search rules) (c.set.ensures.means number) c.set.ensures.ground
