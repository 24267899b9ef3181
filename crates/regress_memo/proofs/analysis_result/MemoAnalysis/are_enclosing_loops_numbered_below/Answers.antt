use Rattle.std.proofs.Common.{◌<◌, false, arith}
use Rattle.regress_memo.specs.declared.analysis_result.EnclosingLoop.{EnclosingLoop}
use Rattle.regress_memo.proofs.LoopFactFlowLemmas.{rows-more, rows-all}
use Rattle.regress_memo.proofs.analysis_result.MemoAnalysis.are_enclosing_loops_numbered_below.Goals as goal

pub loop-row-preserved : goal.loop-row-preserved
loop-row-preserved c =
    rows-more (λ (row : EnclosingLoop). row.id < c.args.from) c.enclosing_loops-rows.result.now c.loop-row.row-index c.loop-row.invariant
    (record { id = 0; moved = false; empty = false }) c.loop-row-test.true (omega arith)

pub returns : goal.returns
returns c = λ _.
    rows-all (λ (row : EnclosingLoop). row.id < c.args.from) c.enclosing_loops-rows.result.now c.loop-row.row-index c.loop-row.invariant _ c.enclosing_loops-rows.ensures (omega arith)
