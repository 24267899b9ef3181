use Rattle.regress_memo.proofs.UnboundedCharLoopLemmas.{runs-give}
use Rattle.regress_memo.proofs.unbounded_char_loops_are_memo_steps.Goals as goal

pub returns : goal.returns
returns c = runs-give
