use Rattle.regress_memo.proofs.SkippedLookaroundLemmas.{rows-at-hand}
use Rattle.regress_memo.proofs.threads_stay_equivalent.Goals as goal

pub returns : goal.returns
returns c = rows-at-hand
