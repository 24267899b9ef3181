use Rattle.regress_memo.proofs.ThreadPotentialLemmas.{runs-pay}
use Rattle.regress_memo.proofs.keys_cover_recorded_exits.Goals as goal

pub returns : goal.returns
returns c = runs-pay
