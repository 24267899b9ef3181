use Rattle.regress_memo.proofs.StepCostLemmas.{turns-paid}
use Rattle.regress_memo.proofs.step_costs_are_covered.Goals as goal

pub returns : goal.returns
returns c = turns-paid
