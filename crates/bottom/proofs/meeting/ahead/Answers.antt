use Rattle.std.proofs.Common.{arith}
use Rattle.bottom.proofs.Remainders.{up, round}
use Rattle.bottom.proofs.meeting.ahead.Goals as goal

pub returns-then-here-there-clause-leads : goal.returns-then-here-there-clause-leads
returns-then-here-there-clause-leads c = λ some. up c.args.from c.args.to c.args.period some (omega arith)

pub returns-else-here-there-clause-leads : goal.returns-else-here-there-clause-leads
returns-else-here-there-clause-leads c = λ some. round c.args.from c.args.to c.args.period some (omega arith)
