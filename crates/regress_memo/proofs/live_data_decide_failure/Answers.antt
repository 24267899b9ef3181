use Rattle.regress_memo.proofs.ThreadsThatFailAlone.{failure-shared}
use Rattle.regress_memo.proofs.live_data_decide_failure.Goals as goal

pub returns : goal.returns
returns c = failure-shared
