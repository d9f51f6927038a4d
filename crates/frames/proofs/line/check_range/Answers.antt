use Rattle.std.proofs.Common.{rules}
use Rattle.frames.specs.Line.{in_range}
use Rattle.frames.proofs.line.check_range.Goals as goal

pub returns-then-n-range : goal.returns-then-n-range
unfolding in_range
returns-then-n-range c = search rules

pub returns-then-n-range-2 : goal.returns-then-n-range-2
unfolding in_range
returns-then-n-range-2 c = search rules

pub returns : goal.returns
unfolding in_range
returns c = search rules
