use Rattle.regress_memo.proofs.ClosedLookaroundLemmas.{contents-take-few}
use Rattle.regress_memo.proofs.analysis_laws.contents_take_few_steps.Goals as goal

pub returns : goal.returns
returns c = contents-take-few
