use Rattle.regress_memo.proofs.MemoSearchLemmas.{turns-onward}
use Rattle.regress_memo.proofs.rightward_searches_never_move_left.Goals as goal

pub returns : goal.returns
returns c = turns-onward
