use Rattle.regress_machine.proofs.TreeCodeOutcomes.{searches-find}
use Rattle.regress_machine.proofs.searches_find_first_outcome.Goals as goal

pub returns : goal.returns
returns c = searches-find
