use Rattle.regress_search.proofs.MarkedOffsetLemmas.{none-marked}
use Rattle.regress_search.proofs.search_by_marks.may_skip_block.Goals as goal

pub returns-then-marks-eq0 : goal.returns-then-marks-eq0
returns-then-marks-eq0 g c _ =
    none-marked (g.Test.OffsetTest.passes_at c.args.test.now (g.W.SearchContext.searching c.args.context.now)) c.args.at c.marks.result c.marks.ensures c.if-marks-eq0.true
