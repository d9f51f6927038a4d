use Rattle.bottom.specs.Ledger.{cycle_of, no_rest}
use Rattle.bottom.proofs.Windows.{one_changed}
use Rattle.bottom.proofs.ledger.Ledger.set.Goals as goal

pub returns-clause-means : goal.returns-clause-means
returns-clause-means c = λ number i. record { windows = one_changed c.args.self.now.windows c.set.new.self c.args.number c.args.slot c.set.ensures number i; cycle = cycle_of c.args.self.now.ground.links c.args.self.now.ground.cycle; rest = no_rest }
