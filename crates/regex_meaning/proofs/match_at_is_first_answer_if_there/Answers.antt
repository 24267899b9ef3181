use Rattle.regex_meaning.proofs.MatchAtOffsetLemmas.{matches_at-first}
use Rattle.regex_meaning.proofs.match_at_is_first_answer_if_there.Goals as goal

pub returns : goal.returns
returns c = matches_at-first
