use Rattle.regex_meaning.proofs.MatchOrderLemmas.{outcomes-inside}
use Rattle.regex_meaning.proofs.outcomes_stay_in_text.Goals as goal

pub returns : goal.returns
returns c = outcomes-inside
