use Rattle.regress_memo.proofs.MemoPlanLemmas.{plans-serve}
use Rattle.regress_memo.proofs.checked_memo_plans_are_sound.Goals as goal

pub returns : goal.returns
returns c = plans-serve
