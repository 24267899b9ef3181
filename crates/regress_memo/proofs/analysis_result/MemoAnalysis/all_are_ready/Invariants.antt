use Rattle.std.proofs.Common.{◌≡◌, ◌≤◌, ◌<◌, ℕ, Some, slice_get}
use Rattle.regress_memo.specs.declared.analysis_result.InsnAnalysis.{InsnAnalysis}
use Rattle.regress_memo.proofs.analysis_result.MemoAnalysis.all_are_ready.Given as goal

abbrev pub invariant-loop-line : goal.invariant-loop-line
invariant-loop-line l = (k : ℕ) → k < l.line-index → (x : InsnAnalysis) → slice_get l.lines k ≡ Some x → 1 ≤ x.ready
