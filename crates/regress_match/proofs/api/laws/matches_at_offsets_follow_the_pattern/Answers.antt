use Rattle.regress_match.proofs.GrammarTreeLemmas.{matches-at-follow, ecmascript-matches-at-follow}
use Rattle.regress_match.proofs.api.laws.matches_at_offsets_follow_the_pattern.Goals as goal

pub returns-clause-profile : goal.returns-clause-profile
returns-clause-profile c = matches-at-follow

pub returns-clause-ecmascript : goal.returns-clause-ecmascript
returns-clause-ecmascript c = ecmascript-matches-at-follow
