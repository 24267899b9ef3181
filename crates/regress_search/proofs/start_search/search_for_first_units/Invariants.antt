use Rattle.regress_search.specs.StartSearch.{FitsNotBefore}
use Rattle.regress_search.proofs.start_search.search_for_first_units.Given as goal

abbrev pub invariant-misses : goal.invariant-misses
invariant-misses g l = FitsNotBefore (g.W.SearchContext.searching l.context) l.prefix l.fn.from l.at
