use Rattle.regress_search.specs.MarkedOffsets.{MarksAllPassing}
use Rattle.regress_search.proofs.search_by_marks.first_in_block.Given as goal

abbrev pub invariant-marked : goal.invariant-marked
invariant-marked g l =
    MarksAllPassing (g.Test.OffsetTest.passes_at l.test (g.W.SearchContext.searching l.context)) l.from l.left

abbrev pub decreases-marked : goal.decreases-marked
decreases-marked g l = l.left
