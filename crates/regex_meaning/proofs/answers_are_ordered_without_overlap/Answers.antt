use Rattle.regex_meaning.proofs.MatchOrderLemmas.{answers-StandInOrder}
use Rattle.regex_meaning.proofs.answers_are_ordered_without_overlap.Goals as goal

pub returns : goal.returns
returns c = answers-StandInOrder
