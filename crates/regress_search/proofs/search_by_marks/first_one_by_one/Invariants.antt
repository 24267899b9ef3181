use Rattle.std.proofs.Common.{◌≤◌, ◌-◌}
use Rattle.regress_search.specs.MarkedOffsets.{TestFailsThroughoutRange}
use Rattle.regress_search.proofs.search_by_marks.first_one_by_one.Given as goal

abbrev pub invariant-places : goal.invariant-places
invariant-places g l =
    (l.fn.from ≤ l.at) × (l.at ≤ l.to) × TestFailsThroughoutRange (g.Test.OffsetTest.passes_at l.test (g.W.SearchContext.searching l.context)) l.fn.from l.at

abbrev pub decreases-places : goal.decreases-places
decreases-places g l = l.to - l.at
