use Rattle.regress_memo.proofs.LivenessLemmas.{rows-alike}
use Rattle.regress_memo.proofs.live_data_decide_thread_lists.Goals as goal

pub returns : goal.returns
returns c = rows-alike
