use Rattle.regress_memo.proofs.WorkBoundLemmas.{ledgers-bound}
use Rattle.regress_memo.proofs.analysis_laws.analyses_bound_total_work.Goals as goal

pub returns : goal.returns
returns c = ledgers-bound
