use Rattle.std.proofs.Common.{◌≡◌, ◌<◌, ℕ, Some, slice_get}
use Rattle.regress_memo.specs.declared.analysis_result.EnclosingLoop.{EnclosingLoop}
use Rattle.regress_memo.specs.AnalysisChecks.{LoopFactsFlow}
use Rattle.regress_memo.proofs.analysis_result.MemoAnalysis.all_loop_facts_flow.Given as goal

abbrev pub invariant-loop-row : goal.invariant-loop-row
invariant-loop-row l =
    (k : ℕ) → k < l.row-index → (row : EnclosingLoop) → slice_get l.rows k ≡ Some row → LoopFactsFlow l.self l.edge.reads l.edge.entered l.edge.ip row
