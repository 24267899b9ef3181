use Rattle.regex_meaning.proofs.MatchOrderLemmas.{answers-few}
use Rattle.regex_meaning.proofs.answer_count_is_bounded.Goals as goal

pub returns : goal.returns
returns c = answers-few
