use Rattle.regress_memo.proofs.CappedCharLoopLemmas.{scans-give}
use Rattle.regress_memo.proofs.char_loop_scans_are_memo_steps.Goals as goal

pub returns : goal.returns
returns c = scans-give
