use Rattle.std.proofs.Common.{arith}
use Rattle.regress_memo.specs.AnalysisChecks.{LoopFactsFlow}
use Rattle.regress_memo.proofs.LoopFactFlowLemmas.{rows-more, rows-all}
use Rattle.regress_memo.proofs.analysis_result.MemoAnalysis.all_loop_facts_flow.Goals as goal

pub loop-row-preserved : goal.loop-row-preserved
loop-row-preserved c =
    rows-more (LoopFactsFlow c.args.self.now c.args.edge.reads c.args.edge.entered c.args.edge.ip) c.enclosing_loops-rows.result.now c.loop-row.row-index
    c.loop-row.invariant _ c.loop-row-test.true (c.loop_facts_flow_for_entry.ensures c.if-not-loop_facts_flow_for_entry.false)

pub returns : goal.returns
returns c = λ _.
    rows-all (LoopFactsFlow c.args.self.now c.args.edge.reads c.args.edge.entered c.args.edge.ip) c.enclosing_loops-rows.result.now c.loop-row.row-index
    c.loop-row.invariant _ c.enclosing_loops-rows.ensures (omega arith)
