use Rattle.std.proofs.Common.{append_assoc}
use Rattle.frames.specs.Line.{written}
use Rattle.frames.proofs.timed.TimedDisplay.fmt.Goals as goal

pub returns-clause-writes : goal.returns-clause-writes
unfolding written
returns-clause-writes g c = simp append_assoc c.write.ensures.writes
