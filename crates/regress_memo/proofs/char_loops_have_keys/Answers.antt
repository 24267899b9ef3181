use Rattle.regress_memo.proofs.CharLoopKeyLemmas.{runs-have-keys}
use Rattle.regress_memo.proofs.char_loops_have_keys.Goals as goal

pub returns : goal.returns
returns c = runs-have-keys
