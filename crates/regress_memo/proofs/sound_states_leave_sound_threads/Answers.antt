use Rattle.regress_memo.proofs.SharedMemoLookaroundLemmas.{soundness-stays}
use Rattle.regress_memo.proofs.sound_states_leave_sound_threads.Goals as goal

pub returns : goal.returns
returns c = soundness-stays
