use Rattle.regress_memo.proofs.MemoKeyLemmas.{records-right}
use Rattle.regress_memo.proofs.recorded_failures_are_right.Goals as goal

pub returns : goal.returns
returns c = records-right
