use Rattle.periods.proofs.Bezout.{reaches}
use Rattle.periods.proofs.Euclid.{step, whole, some}
use Rattle.periods.specs.Divisors.{Gcd}
use Rattle.periods.proofs.divisor.gcd.Goals as goal

pub loop-y-preserved : goal.loop-y-preserved
loop-y-preserved c = λ g h. c.loop-y.invariant g (step c.loop-y.x c.loop-y.y g h)

pub returns : goal.returns
returns c =
    let a = c.args.a in
    let b = c.args.b in
    let x = c.loop-y.x in
    let common : Gcd a b x = c.loop-y.invariant x (rw c.loop-y-test.false (whole x)) in
    record {
      greatest = common;
      reaches = reaches a b x common;
      some = some x a common.left;
    }
