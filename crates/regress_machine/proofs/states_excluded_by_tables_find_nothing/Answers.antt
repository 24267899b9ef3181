use Rattle.regress_machine.proofs.FirstSetTableLemmas.{covered-nothing}
use Rattle.regress_machine.proofs.states_excluded_by_tables_find_nothing.Goals as goal

pub returns : goal.returns
returns c = covered-nothing
