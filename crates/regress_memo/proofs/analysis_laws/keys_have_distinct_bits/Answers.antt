use Rattle.regress_memo.proofs.BitsOfMemoKeys.{keys-have-bits}
use Rattle.regress_memo.proofs.analysis_laws.keys_have_distinct_bits.Goals as goal

pub returns : goal.returns
returns c = keys-have-bits
