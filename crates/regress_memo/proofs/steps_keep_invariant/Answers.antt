use Rattle.regress_memo.proofs.MemoSearchLemmas.{turns-right}
use Rattle.regress_memo.proofs.steps_keep_invariant.Goals as goal

pub returns : goal.returns
returns c = turns-right
