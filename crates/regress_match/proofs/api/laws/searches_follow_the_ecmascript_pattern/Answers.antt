use Rattle.regress_match.proofs.GrammarTreeLemmas.{ecmascript-searches-follow}
use Rattle.regress_match.proofs.api.laws.searches_follow_the_ecmascript_pattern.Goals as goal

pub returns : goal.returns
returns c = ecmascript-searches-follow
