use Rattle.std.proofs.Common.{◌≡◌, rules}
use Rattle.frames.specs.Line.{read_line}
use Rattle.frames.proofs.Exact.{exact}
use Rattle.frames.proofs.Explained.{explains}
use Rattle.frames.proofs.line.read_line.Goals as goal

pub returns-in_err-form : goal.returns-in_err-form
returns-in_err-form c =
    let read : c.from_residual.result ≡ read_line c.args.line.now = search rules in
    record { value = read; exact = exact c.args.line.now c.from_residual.result read; explained = explains c.args.line.now c.from_residual.result read }

pub returns : goal.returns
returns c =
    let read : c.check_ranges.result ≡ read_line c.args.line.now = search rules in
    record { value = read; exact = exact c.args.line.now c.check_ranges.result read; explained = explains c.args.line.now c.check_ranges.result read }
