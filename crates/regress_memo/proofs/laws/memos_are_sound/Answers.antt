use Rattle.regress_memo.proofs.MemoTableLawLemmas.{memos-are-true}
use Rattle.regress_memo.proofs.laws.memos_are_sound.Goals as goal

pub returns : goal.returns
returns c = memos-are-true
