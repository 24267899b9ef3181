use Rattle.regress_memo.proofs.ThreadPotentialLemmas.{places-keys}
use Rattle.regress_memo.proofs.offsets_and_codes_are_keys.Goals as goal

pub returns : goal.returns
returns c = places-keys
