use Rattle.regress_memo.proofs.PreservedSlotLemmas.{states-stay}
use Rattle.regress_memo.proofs.states_keep_slots.Goals as goal

pub returns : goal.returns
returns c = states-stay
