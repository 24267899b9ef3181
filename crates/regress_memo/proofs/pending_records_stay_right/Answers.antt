use Rattle.regress_memo.proofs.MemoSearchLemmas.{noted-stays}
use Rattle.regress_memo.proofs.pending_records_stay_right.Goals as goal

pub returns : goal.returns
returns c = noted-stays
