use Rattle.regress_memo.proofs.WorkBudgetLemmas.{budgets-enough}
use Rattle.regress_memo.proofs.work_budgets_suffice.Goals as goal

pub returns : goal.returns
returns c = budgets-enough
