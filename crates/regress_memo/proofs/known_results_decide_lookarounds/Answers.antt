use Rattle.regress_memo.proofs.SharedMemoLookaroundLemmas.{looks-decided}
use Rattle.regress_memo.proofs.known_results_decide_lookarounds.Goals as goal

pub returns : goal.returns
returns c = looks-decided
