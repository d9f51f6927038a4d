use Rattle.std.proofs.Common.{ℕ}
use Rattle.periods.specs.Divisors.{Gcd}
use Rattle.periods.proofs.divisor.gcd.Given as goal

-- what is greatest of x and y is greatest of the two numbers passed
abbrev pub invariant-loop-y : goal.invariant-loop-y
invariant-loop-y l = (g : ℕ) → Gcd l.x l.y g → Gcd l.a l.b g

abbrev pub decreases-loop-y : goal.decreases-loop-y
decreases-loop-y l = l.y
