use Rattle.regress_memo.proofs.MemoKeyLemmas.{keys-decide}
use Rattle.regress_memo.proofs.memo_keys_decide_failure.Goals as goal

pub returns : goal.returns
returns c = keys-decide
