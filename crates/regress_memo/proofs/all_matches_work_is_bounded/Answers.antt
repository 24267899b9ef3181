use Rattle.regress_memo.proofs.AllMatchesWorkLemmas.{matches-together}
use Rattle.regress_memo.proofs.all_matches_work_is_bounded.Goals as goal

pub returns : goal.returns
returns c = matches-together
