use Rattle.std.proofs.Common.{rules}
use Rattle.script.specs.Reading.{read_call}
use Rattle.script.proofs.line.read_call.Goals as goal

pub returns : goal.returns
unfolding read_call
returns c = search rules
