use Rattle.regress_memo.proofs.LivenessExampleLemmas.{row-right}
use Rattle.regress_memo.proofs.liveness_examples_are_right.Goals as goal

pub returns : goal.returns
returns c = row-right
