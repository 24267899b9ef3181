use Rattle.regress_machine.proofs.SearchResultLemmas.{ticks-steps}
use Rattle.regress_machine.proofs.ticks_are_steps.Goals as goal

pub returns : goal.returns
returns c program tree text can place places inside = ticks-steps program tree text can place inside places
