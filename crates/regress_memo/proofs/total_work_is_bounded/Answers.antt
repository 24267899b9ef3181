use Rattle.regress_memo.proofs.SuccessiveMatchLemmas.{attempts-few}
use Rattle.regress_memo.proofs.total_work_is_bounded.Goals as goal

pub returns : goal.returns
returns c = attempts-few
