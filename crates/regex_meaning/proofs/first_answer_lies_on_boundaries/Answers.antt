use Rattle.regex_meaning.proofs.SearchAnswersLemmas.{first_answer-stands}
use Rattle.regex_meaning.proofs.first_answer_lies_on_boundaries.Goals as goal

pub returns : goal.returns
returns c = first_answer-stands
