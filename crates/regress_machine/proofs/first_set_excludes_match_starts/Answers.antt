use Rattle.regress_machine.proofs.ExcludedMatchStartLemmas.{starts-bar}
use Rattle.regress_machine.proofs.first_set_excludes_match_starts.Goals as goal

pub returns : goal.returns
returns c = starts-bar
