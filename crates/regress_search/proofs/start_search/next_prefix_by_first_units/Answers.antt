use Rattle.std.proofs.Common.{subst}
use Rattle.regress_search.specs.StartSearch.{IsFirstUnitsSearch}
use Rattle.regress_search.proofs.StartSearchLemmas.{misses-later}
use Rattle.regress_search.proofs.start_search.next_prefix_by_first_units.Goals as goal

pub returns-in-Fits : goal.returns-in-Fits
returns-in-Fits g c =
    let w = g.W.SearchContext.searching c.args.context.now in
    subst (IsFirstUnitsSearch w c.args.prefix.now c.args.from) c.in-Fits.is c.search_for_first_units.ensures

pub returns-in-Nowhere : goal.returns-in-Nowhere
returns-in-Nowhere g c =
    let w = g.W.SearchContext.searching c.args.context.now in
    subst (IsFirstUnitsSearch w c.args.prefix.now c.args.from) c.in-Nowhere.is c.search_for_first_units.ensures

pub next_prefix_by_other_units-requires-clause-at : goal.next_prefix_by_other_units-requires-clause-at
next_prefix_by_other_units-requires-clause-at g c =
    let w = g.W.SearchContext.searching c.args.context.now in
    (subst (IsFirstUnitsSearch w c.args.prefix.now c.args.from) c.in-GaveUp.is c.search_for_first_units.ensures).boundary

pub returns-in-GaveUp : goal.returns-in-GaveUp
returns-in-GaveUp g c =
    let w = g.W.SearchContext.searching c.args.context.now in
    misses-later w c.args.prefix.now c.args.from c.in-GaveUp.at (subst (IsFirstUnitsSearch w c.args.prefix.now c.args.from) c.in-GaveUp.is c.search_for_first_units.ensures)
    c.next_prefix_by_other_units.result c.next_prefix_by_other_units.ensures
