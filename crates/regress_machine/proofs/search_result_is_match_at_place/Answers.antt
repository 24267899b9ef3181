use Rattle.regress_machine.proofs.SearchResultLemmas.{finds-match}
use Rattle.regress_machine.proofs.search_result_is_match_at_place.Goals as goal

pub returns : goal.returns
returns c = finds-match
