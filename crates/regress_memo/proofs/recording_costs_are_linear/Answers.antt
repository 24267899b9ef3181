use Rattle.regress_memo.proofs.RecordingCostLemmas.{costs-few}
use Rattle.regress_memo.proofs.recording_costs_are_linear.Goals as goal

pub returns : goal.returns
returns c = costs-few
