use Rattle.std.proofs.Common.{◌≤◌, ◌-◌}
use Rattle.regress_search.specs.MarkedOffsets.{TestFailsThroughoutRange}
use Rattle.regress_search.proofs.search_by_marks.first_by_marks.Given as goal

abbrev pub invariant-blocks-2 : goal.invariant-blocks-2
invariant-blocks-2 g l =
    (l.fn.from ≤ l.at) × (l.at ≤ l.to) × TestFailsThroughoutRange (g.Test.OffsetTest.passes_at l.test (g.W.SearchContext.searching l.context)) l.fn.from l.at

abbrev pub decreases-blocks-2 : goal.decreases-blocks-2
decreases-blocks-2 g l = l.to - l.at
