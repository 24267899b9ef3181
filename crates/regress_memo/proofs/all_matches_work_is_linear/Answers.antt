use Rattle.regress_memo.proofs.AllMatchesWorkLemmas.{linear-in-places}
use Rattle.regress_memo.proofs.all_matches_work_is_linear.Goals as goal

pub returns : goal.returns
returns c = linear-in-places
