use Rattle.regress_memo.proofs.LivenessLemmas.{agreeing-alike}
use Rattle.regress_memo.proofs.live_data_decide_search_result.Goals as goal

pub returns : goal.returns
returns c = agreeing-alike
