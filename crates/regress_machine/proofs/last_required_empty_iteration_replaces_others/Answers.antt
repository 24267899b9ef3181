use Rattle.regress_machine.proofs.LoopReadingNothingLemmas.{last-iteration-will-do}
use Rattle.regress_machine.proofs.last_required_empty_iteration_replaces_others.Goals as goal

pub returns : goal.returns
returns c = last-iteration-will-do
