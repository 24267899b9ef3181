use Rattle.regress_memo.proofs.SharedMemoLookaroundLemmas.{success-shared}
use Rattle.regress_memo.proofs.found_end_is_shared.Goals as goal

pub returns : goal.returns
returns c = success-shared
