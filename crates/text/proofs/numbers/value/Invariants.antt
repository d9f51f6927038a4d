use Rattle.std.proofs.Common.{◌≡◌, ◌^◌, ◌<◌, drop}
use Rattle.text.specs.Number.{value_of, value_after}
use Rattle.text.proofs.numbers.value.Given as goal

-- the digits that are left lead from the value so far, of 32 bits, to that of all digits
abbrev pub invariant-loop-digit : goal.invariant-loop-digit
invariant-loop-digit l = (value_after l.value (drop l.digit-index l.digits) ≡ value_of l.digits) × (l.value < 2 ^ 32)
