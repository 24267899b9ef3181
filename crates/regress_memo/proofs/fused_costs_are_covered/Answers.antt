use Rattle.regress_memo.proofs.FusedStepCostLemmas.{chains-pay}
use Rattle.regress_memo.proofs.fused_costs_are_covered.Goals as goal

pub returns : goal.returns
returns c = chains-pay
