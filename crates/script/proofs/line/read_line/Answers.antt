use Rattle.std.proofs.Common.{◌≡◌, arith}
use Rattle.std.proofs.lemmas.Grind.{common_steps}
use Rattle.script.specs.Reading.{read_line}
use Rattle.script.proofs.Exact.{exact}
use Rattle.script.proofs.line.read_line.Goals as goal

pub returns : goal.returns
unfolding read_line
returns c =
    let read : c.or_else.result ≡ read_line c.args.line.now = grind (arith, common_steps) in
    record { value = read; exact = exact c.args.line.now _ read }
