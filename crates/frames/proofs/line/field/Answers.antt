use Rattle.std.proofs.Common.{arith}
use Rattle.std.proofs.lemmas.Grind.{common_steps}
use Rattle.frames.specs.Line.{field}
use Rattle.frames.proofs.line.field.Goals as goal

pub returns-in_err-rest : goal.returns-in_err-rest
unfolding field
returns-in_err-rest c = grind (arith, common_steps)

pub returns : goal.returns
unfolding field
returns c = grind (arith, common_steps)
