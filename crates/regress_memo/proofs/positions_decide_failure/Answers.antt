use Rattle.regress_memo.proofs.MemoKeyLemmas.{places-decide}
use Rattle.regress_memo.proofs.positions_decide_failure.Goals as goal

pub returns : goal.returns
returns c = places-decide
