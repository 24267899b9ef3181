use Rattle.std.proofs.Common.{◌≡◌, ◌<◌, ℕ, Some, slice_get}
use Rattle.regress_memo.specs.declared.analysis_result.EnclosingLoop.{EnclosingLoop}
use Rattle.regress_memo.proofs.analysis_result.MemoAnalysis.are_enclosing_loops_numbered_below.Given as goal

abbrev pub invariant-loop-row : goal.invariant-loop-row
invariant-loop-row l = (k : ℕ) → k < l.row-index → (row : EnclosingLoop) → slice_get l.rows k ≡ Some row → row.id < l.from
