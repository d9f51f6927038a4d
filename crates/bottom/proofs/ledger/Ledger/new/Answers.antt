use Rattle.bottom.proofs.Grounds.{made_means, made_kept}
use Rattle.bottom.proofs.Windows.{no_windows}
use Rattle.bottom.proofs.ledger.Ledger.new.Goals as goal

pub returns : goal.returns
returns c = record {
  means = made_means c.args.ground.links c.args.ground.cycle c.all.result (no_windows c.all.result c.all.ensures);
  kept = made_kept c.args.ground.links c.args.ground.cycle c.all.result (no_windows c.all.result c.all.ensures);
}
