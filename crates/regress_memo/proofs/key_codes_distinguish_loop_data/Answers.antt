use Rattle.regress_memo.proofs.LoopDataKeyCodeLemmas.{plans-tell}
use Rattle.regress_memo.proofs.key_codes_distinguish_loop_data.Goals as goal

pub returns : goal.returns
returns c = plans-tell
