use Rattle.regress_search.proofs.MarkedOffsetLemmas.{marks-either}
use Rattle.regress_search.proofs.few_wide_units.EitherOffsetTest.marks.Goals as goal

pub returns : goal.returns
returns g c =
    let w = g.W.SearchContext.searching c.args.context.now in
    marks-either (g.A.OffsetTest.passes_at c.args.self.now.a w) (g.B.OffsetTest.passes_at c.args.self.now.b w) c.args.at c.marks.result c.marks-2.result c.marks.ensures c.marks-2.ensures
