use Rattle.regress_memo.proofs.AmortizedMemoSearchLemmas.{searches-are-paid}
use Rattle.regress_memo.proofs.laws.work_is_covered_by_key_costs.Goals as goal

pub returns : goal.returns
returns c = searches-are-paid
