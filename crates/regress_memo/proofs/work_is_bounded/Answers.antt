use Rattle.regress_memo.proofs.MemoSearchLemmas.{work-is-bounded}
use Rattle.regress_memo.proofs.work_is_bounded.Goals as goal

pub returns : goal.returns
returns c = work-is-bounded
