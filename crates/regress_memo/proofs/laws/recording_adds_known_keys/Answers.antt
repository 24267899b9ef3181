use Rattle.regress_memo.proofs.MemoTableLawLemmas.{memos-hold}
use Rattle.regress_memo.proofs.laws.recording_adds_known_keys.Goals as goal

pub returns : goal.returns
returns c = memos-hold
