use Rattle.regex_meaning.proofs.SearchAnswersLemmas.{answers-go_on}
use Rattle.regex_meaning.proofs.answers_from_offset_unfold.Goals as goal

pub returns : goal.returns
returns c = answers-go_on
