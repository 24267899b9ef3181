use Rattle.regress_memo.proofs.RightwardStepLemmas.{turns-move-on}
use Rattle.regress_memo.proofs.rightward_insns_never_move_left.Goals as goal

pub returns : goal.returns
returns c = turns-move-on
