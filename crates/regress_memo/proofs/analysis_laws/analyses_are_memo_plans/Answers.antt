use Rattle.regress_memo.proofs.CheckedAnalysisLemmas.{ledgers-serve}
use Rattle.regress_memo.proofs.analysis_laws.analyses_are_memo_plans.Goals as goal

pub returns : goal.returns
returns c = ledgers-serve
