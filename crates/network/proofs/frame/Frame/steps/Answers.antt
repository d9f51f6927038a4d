use Rattle.std.proofs.Common.{◌<◌, mul-pos, arith}
use Rattle.network.proofs.FrameLength.{length_is, length_least}
use Rattle.network.proofs.frame.Frame.steps.Goals as goal

pub div_ceil-requires : goal.div_ceil-requires
div_ceil-requires c = mul-pos (omega arith) (omega arith)

pub returns : goal.returns
returns c =
    let f = c.args.self in
    let rated : 0 < f.rate = omega arith in
    let grained : 0 < f.grain = omega arith in
    record {
      value = rw (c.div_ceil.ensures, c.from.ensures, c.from-2.ensures, c.from-3.ensures) (length_is f rated grained);
      least = rw (c.div_ceil.ensures, c.from.ensures, c.from-2.ensures, c.from-3.ensures) (length_least f rated grained);
    }
