use Rattle.regress_memo.proofs.ClosedLookaroundLemmas.{silent-take-few}
use Rattle.regress_memo.proofs.analysis_laws.silent_contents_take_few_steps.Goals as goal

pub returns : goal.returns
returns c = silent-take-few
