use Rattle.std.proofs.Common.{arith}
use Rattle.book.proofs.cases.worked_cases.Goals as goal

pub returns-clause-hold : goal.returns-clause-hold
returns-clause-hold c = (
  record {
    one = (2, (omega arith, omega arith));
    other = (1, (omega arith, omega arith));
    first = λ t early v w. omega (arith, v.1.0, v.1.1, w.1.0, w.1.1);
  },
  ((λ met. omega (arith, met.1.0.1.0, met.1.0.1.1, met.1.1.1.0, met.1.1.1.1)), tt),
)
