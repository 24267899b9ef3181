use Rattle.regress_backtrack.proofs.WorkBoundLemmas.{attempts-bounded}
use Rattle.regress_backtrack.proofs.work_limited.attempts_cost_at_most_their_steps.Goals as goal

pub returns : goal.returns
returns c = attempts-bounded
