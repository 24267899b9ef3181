use Rattle.regress_memo.proofs.SharedMemoLookaroundLemmas.{looks-learn}
use Rattle.regress_memo.proofs.lookarounds_learn_keys.Goals as goal

pub returns : goal.returns
returns c = looks-learn
