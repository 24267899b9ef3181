use Rattle.std.proofs.Common.{sym, ◌∙◌, arith}
use Rattle.regress_search.proofs.MarkedOffsetLemmas.{none-below, none-marked}
use Rattle.regress_search.proofs.search_by_marks.first_in_block.Goals as goal

pub returns-then-passes : goal.returns-then-passes
returns-then-passes g c =
    let test = g.Test.OffsetTest.passes_at c.args.test.now (g.W.SearchContext.searching c.args.context.now) in
    let bit = c.lowest_bit-bit.result in
    let short = c.marked.invariant.within bit c.lowest_bit-bit.ensures.set in (
      omega arith,
      omega (arith, short),
      sym c.passes.ensures ∙ c.if-passes.true,
      none-below test c.args.from c.marked.left c.marked.invariant bit short c.lowest_bit-bit.ensures.below,
    )

pub returns : goal.returns
returns g c =
    let test = g.Test.OffsetTest.passes_at c.args.test.now (g.W.SearchContext.searching c.args.context.now) in
    none-marked test c.args.from c.marked.left c.marked.invariant c.marked-test.false
