use Rattle.std.proofs.Common.{◌≡◌, ◌+◌, ◌-◌, ◌*◌, get_or, ◌∙◌, arith}
use Rattle.text.proofs.Values.{value_more, value_all, too_great}
use Rattle.text.proofs.numbers.value.Goals as goal

pub returns-in_err-checked_mul : goal.returns-in_err-checked_mul
returns-in_err-checked_mul c =
    c.from_residual.ensures ∙ too_great c.loop-digit.value c.args.digits.now c.loop-digit.digit-index _ c.loop-digit-test.true (omega (arith, c.in_err-checked_mul.ensures)) c.loop-digit.invariant.0

pub returns-in_err-value : goal.returns-in_err-value
returns-in_err-value c =
    c.from_residual-in_err-value.ensures ∙ too_great c.loop-digit.value c.args.digits.now c.loop-digit.digit-index _ c.loop-digit-test.true (omega (arith, c.in_ok-checked_mul.ensures, c.in_err-value.ensures)) c.loop-digit.invariant.0

pub loop-digit-preserved : goal.loop-digit-preserved
loop-digit-preserved c =
    let ds = c.args.digits.now in
    let i = c.loop-digit.digit-index in
    let is : c.in_ok-value.value ≡ c.loop-digit.value * 10 + (get_or ds i 0 - 48) = omega (arith, c.in_ok-checked_mul.ensures, c.in_ok-value.ensures) in
    (rw is (value_more c.loop-digit.value ds i _ c.loop-digit-test.true c.loop-digit.invariant.0), omega (arith, c.in_ok-value.ensures))

pub returns : goal.returns
returns c = value_all c.loop-digit.value c.args.digits.now c.loop-digit.digit-index _ c.loop-digit-test.false c.loop-digit.invariant.1 c.loop-digit.invariant.0
