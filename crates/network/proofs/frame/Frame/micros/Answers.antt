use Rattle.std.proofs.Common.{◌*◌, ap, arith}
use Rattle.std.specs.Option.{option_map}
use Rattle.network.proofs.FrameLength.{micros_fit, time_least}
use Rattle.network.proofs.frame.Frame.micros.Goals as goal

pub overflow_mul-result : goal.overflow_mul-result
overflow_mul-result c =
    let n = c.in_ok-steps.steps in
    let f = c.args.self in
    omega (arith, ap (λ g. n * g) c.from.ensures, micros_fit f n (omega arith) (omega arith) c.in_ok-steps.ensures.least)

pub returns : goal.returns
returns c =
    let told = c.in_ok-steps.ensures in
    let n = c.in_ok-steps.steps in
    let f = c.args.self in
    rw c.from.ensures (record { value = ap (option_map (λ k. k * f.grain)) told.value; least = time_least f n told.least })
