use Rattle.std.proofs.Common.{rules}
use Rattle.frames.specs.Answer.{time_line}
use Rattle.frames.proofs.timed.time_line.Goals as goal

pub returns-in_err-frame : goal.returns-in_err-frame
unfolding time_line
returns-in_err-frame c = search rules

pub returns : goal.returns
unfolding time_line
returns c = search rules
