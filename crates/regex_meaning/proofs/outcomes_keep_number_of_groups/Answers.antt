use Rattle.regex_meaning.proofs.MatchOrderLemmas.{outcomes-count}
use Rattle.regex_meaning.proofs.outcomes_keep_number_of_groups.Goals as goal

pub returns : goal.returns
returns c = outcomes-count
