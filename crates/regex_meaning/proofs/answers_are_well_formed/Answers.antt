use Rattle.regex_meaning.proofs.MatchOrderLemmas.{answers-IsWellFormedAnswerFor}
use Rattle.regex_meaning.proofs.answers_are_well_formed.Goals as goal

pub returns : goal.returns
returns c = answers-IsWellFormedAnswerFor
