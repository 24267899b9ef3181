use Rattle.regress_match.proofs.SearchResultLemmas.{searches-ResultsAreMatchesInOrder}
use Rattle.regress_match.proofs.api.laws.searches_return_matches_in_order.Goals as goal

pub returns : goal.returns
returns c = searches-ResultsAreMatchesInOrder
