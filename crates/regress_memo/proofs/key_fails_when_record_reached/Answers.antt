use Rattle.regress_memo.proofs.MemoSearchLemmas.{reached-fail}
use Rattle.regress_memo.proofs.key_fails_when_record_reached.Goals as goal

pub returns : goal.returns
returns c = reached-fail
