use Rattle.std.proofs.Common.{◌+◌, arith}
use Rattle.regress_search.proofs.MarkedOffsetLemmas.{none-then}
use Rattle.regress_search.proofs.search_by_marks.past_blocks_without_marks.Goals as goal

pub blocks-2-preserved : goal.blocks-2-preserved
blocks-2-preserved g c =
    let test = g.Test.OffsetTest.passes_at c.args.test.now (g.W.SearchContext.searching c.args.context.now) in
    let at = c.blocks-2.at in (
      omega (arith, c.blocks-2.invariant.0),
      omega (arith, c.blocks-2-test.true, c.blocks-2.invariant.1),
      none-then test c.args.from at (at + 32) c.blocks-2.invariant.2 (c.may_skip_block.ensures c.if-may_skip_block.true),
    )
