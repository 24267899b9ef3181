use Rattle.regress_memo.proofs.ThreadPotentialLemmas.{turns-give}
use Rattle.regress_memo.proofs.steps_are_memo_steps.Goals as goal

pub returns : goal.returns
returns c = turns-give
