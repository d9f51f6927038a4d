use Rattle.std.proofs.Common.{◌≡◌, ◌||◌, Bool, ltb, arith}
use Rattle.std.proofs.lemmas.Bool.Decides.{nat_tests}
use Rattle.bottom.proofs.Common.{Formula, formula}
use Rattle.bottom.proofs.meeting.meets.Goals.{After-ahead-to_one}
use Rattle.bottom.proofs.meeting.meets.Goals as goal

tested : (c : After-ahead-to_one) (v : Bool) → v ≡ (ltb c.ahead-to_other.result c.args.one.length || ltb c.ahead-to_one.result c.args.other.length) → Formula c.args.one c.args.other v
tested c = formula c.args.one c.args.other _ _ _ c.gcd-common.ensures.some c.gcd-common.ensures.reaches c.ahead-to_other.ensures.leads c.ahead-to_one.ensures.leads

pub returns-then-to_other-one : goal.returns-then-to_other-one
returns-then-to_other-one c = let is = tested (goal.at.returns-then-to_other-one c).After-ahead-to_one _ (grind (arith, nat_tests)) in record { always = is.always; searched = is.searched }

pub returns-else-to_other-one : goal.returns-else-to_other-one
returns-else-to_other-one c = let is = tested (goal.at.returns-else-to_other-one c).After-ahead-to_one _ (grind (arith, nat_tests)) in record { always = is.always; searched = is.searched }
