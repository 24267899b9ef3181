use Rattle.regress_memo.proofs.CharLoopExitLemmas.{runs-leave}
use Rattle.regress_memo.proofs.char_loop_yields_exits.Goals as goal

pub returns : goal.returns
returns c = runs-leave
