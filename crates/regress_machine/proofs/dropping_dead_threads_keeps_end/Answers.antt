use Rattle.regress_machine.proofs.ThreadSimulationLemmas.{dropping-keeps}
use Rattle.regress_machine.proofs.dropping_dead_threads_keeps_end.Goals as goal

pub returns : goal.returns
returns c = dropping-keeps
