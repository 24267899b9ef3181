use Rattle.regress_match.proofs.GrammarTreeLemmas.{searches-follow, ecmascript-searches-follow}
use Rattle.regress_match.proofs.PatternSearchLemmas.{searches-return}
use Rattle.regress_match.proofs.api.laws.searches_return_matches_of_pattern.Goals as goal

pub returns-clause-profile : goal.returns-clause-profile
returns-clause-profile c = searches-return _ searches-follow

pub returns-clause-ecmascript : goal.returns-clause-ecmascript
returns-clause-ecmascript c = searches-return _ ecmascript-searches-follow
