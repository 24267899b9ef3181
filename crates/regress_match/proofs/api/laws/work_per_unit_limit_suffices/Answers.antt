use Rattle.regress_match.proofs.WorkBoundLemmas.{bounds-limited}
use Rattle.regress_match.proofs.api.laws.work_per_unit_limit_suffices.Goals as goal

pub returns : goal.returns
returns c = bounds-limited
