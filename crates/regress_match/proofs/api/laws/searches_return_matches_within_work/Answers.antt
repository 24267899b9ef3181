use Rattle.regress_match.proofs.WorkBoundLemmas.{searches-ResultsAreMatchesWithinWork}
use Rattle.regress_match.proofs.api.laws.searches_return_matches_within_work.Goals as goal

pub returns : goal.returns
returns c = searches-ResultsAreMatchesWithinWork
