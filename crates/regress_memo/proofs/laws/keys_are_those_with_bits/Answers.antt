use Rattle.regress_memo.proofs.MemoTableLawLemmas.{keys-are-there}
use Rattle.regress_memo.proofs.laws.keys_are_those_with_bits.Goals as goal

pub returns : goal.returns
returns c = keys-are-there
