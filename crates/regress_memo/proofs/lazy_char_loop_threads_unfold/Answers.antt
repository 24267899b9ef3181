use Rattle.regress_memo.proofs.CharLoopExitLemmas.{lazy-runs-go-on}
use Rattle.regress_memo.proofs.lazy_char_loop_threads_unfold.Goals as goal

pub returns : goal.returns
returns c = lazy-runs-go-on
