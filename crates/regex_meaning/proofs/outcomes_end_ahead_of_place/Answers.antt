use Rattle.regex_meaning.proofs.OutcomeDirectionLemmas.{outcomes-onward}
use Rattle.regex_meaning.proofs.outcomes_end_ahead_of_place.Goals as goal

pub returns : goal.returns
returns c = outcomes-onward
