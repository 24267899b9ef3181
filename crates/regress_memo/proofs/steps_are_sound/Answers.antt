use Rattle.regress_memo.proofs.ThreadPotentialLemmas.{turns-leave}
use Rattle.regress_memo.proofs.steps_are_sound.Goals as goal

pub returns : goal.returns
returns c = turns-leave
