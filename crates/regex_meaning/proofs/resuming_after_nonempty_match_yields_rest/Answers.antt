use Rattle.regex_meaning.proofs.MatchOrderLemmas.{answers-resume}
use Rattle.regex_meaning.proofs.resuming_after_nonempty_match_yields_rest.Goals as goal

pub returns : goal.returns
returns c = λ root text is start before m after. answers-resume root text is before m after start
