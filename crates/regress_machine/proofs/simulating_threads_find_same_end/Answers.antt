use Rattle.regress_machine.proofs.ThreadSimulationLemmas.{simulating-alike}
use Rattle.regress_machine.proofs.simulating_threads_find_same_end.Goals as goal

pub returns : goal.returns
returns c = simulating-alike
