use Rattle.std.proofs.Common.{◌≡◌, ◌-◌, ◌≤◌, length, None}
use Rattle.regress_search.specs.CostsOfSearches.{IfWorkIsCounted}
use Rattle.regress_c.proofs.BufferFillingLemmas.{Filling}
use Rattle.regress_c.proofs.NextInWorkLemmas.{Spending}
use Rattle.regress_c.specs.declared.next_matches.Stop.TheVariants.{Full}
use Rattle.regress_c.proofs.next_matches.fill.Given as goal

-- what was written, of which search, that nothing is said of it yet, and what it cost
abbrev pub invariant-matches : goal.invariant-matches
invariant-matches g l =
    let e = g.E.SearchState in
    Filling (e.tree l.fn.search) (e.text l.fn.search) (e.budget l.fn.search) l.fn.start l.fn.spans l.spans l.filled.matches l.filled.next l.at (e.budget l.search)
    × (l.at ≤ length l.spans) × (e.tree l.search ≡ e.tree l.fn.search) × (e.text l.search ≡ e.text l.fn.search)
    × (l.filled.stop ≡ Full) × (l.filled.left ≡ None)
    × IfWorkIsCounted e.counts_work (Spending e.costs (e.tree l.fn.search) (e.text l.fn.search) (e.failures l.fn.search) l.fn.start (e.left l.fn.search)
    l.filled.matches l.filled.next (e.failures l.search) (e.left l.search))

abbrev pub decreases-matches : goal.decreases-matches
decreases-matches g l = length l.spans - l.at
