use Rattle.std.proofs.Common.{rules}
use Rattle.script.specs.Form.{field}
use Rattle.script.proofs.line.field.Goals as goal

pub returns-in_err-after_front : goal.returns-in_err-after_front
unfolding field
returns-in_err-after_front c = search rules

pub returns : goal.returns
unfolding field
returns c = search rules
