use Rattle.regex_meaning.proofs.SearchAnswersLemmas.{next_start-ahead}
use Rattle.regex_meaning.proofs.next_start_is_ahead.Goals as goal

pub returns : goal.returns
returns c = next_start-ahead
