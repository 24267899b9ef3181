use Rattle.regress_memo.proofs.MemoPlanLemmas.{plans-take}
use Rattle.regress_memo.proofs.zero_or_one_step_below_record.Goals as goal

pub returns : goal.returns
returns c = plans-take
