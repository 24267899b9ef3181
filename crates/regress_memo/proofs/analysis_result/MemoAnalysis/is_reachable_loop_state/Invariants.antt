use Rattle.std.proofs.Common.{◌≡◌, ◌<◌, ℕ, Some, slice_get}
use Rattle.regress_memo.specs.declared.analysis_result.EnclosingLoop.{EnclosingLoop}
use Rattle.regress_memo.specs.ReachableThreadLoopStates.{direction_from_forward, ThreadLoopStateFitsAnalysis}
use Rattle.regress_memo.proofs.analysis_result.MemoAnalysis.is_reachable_loop_state.Given as goal

abbrev pub invariant-loop-row : goal.invariant-loop-row
invariant-loop-row g l = (k : ℕ) → k < l.row-index → (row : EnclosingLoop) → slice_get l.rows k ≡ Some row
    → ThreadLoopStateFitsAnalysis l.self (direction_from_forward l.forward) l.units l.at (slice_get (g.R.IterationStatesOfAllLoops.rounds l.rounds) row.id) row
