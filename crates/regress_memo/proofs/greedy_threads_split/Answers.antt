use Rattle.regress_memo.proofs.CharLoopExitLemmas.{runs-begin}
use Rattle.regress_memo.proofs.greedy_threads_split.Goals as goal

pub returns : goal.returns
returns c = runs-begin
