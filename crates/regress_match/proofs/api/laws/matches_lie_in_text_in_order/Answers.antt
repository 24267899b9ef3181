use Rattle.regress_match.proofs.MatchRangeLemmas.{matches-stand}
use Rattle.regress_match.proofs.api.laws.matches_lie_in_text_in_order.Goals as goal

pub returns : goal.returns
returns c = matches-stand
