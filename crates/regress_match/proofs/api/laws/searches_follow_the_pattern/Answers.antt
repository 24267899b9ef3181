use Rattle.regress_match.proofs.GrammarTreeLemmas.{searches-follow}
use Rattle.regress_match.proofs.api.laws.searches_follow_the_pattern.Goals as goal

pub returns : goal.returns
returns c = searches-follow
