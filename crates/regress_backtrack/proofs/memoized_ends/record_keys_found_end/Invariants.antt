use Rattle.std.specs.Prelude.{◌≡◌, ◌≤◌, ◌-◌, length}
use Rattle.regress_backtrack.specs.MemoizedExecution.{KeepsMemoSound}
use Rattle.regress_backtrack.proofs.memoized_ends.record_keys_found_end.Given as goal

abbrev pub invariant-choice_points : goal.invariant-choice_points
invariant-choice_points g l =
    (l.fn.base.choice_points ≤ l.index) × KeepsMemoSound g.S.StepCounter g.M.FailureMemo (g.W.SearchContext.searching l.context) l.fn.progress.memo l.progress.memo × (l.progress.steps ≡ l.fn.progress.steps)

abbrev pub decreases-choice_points : goal.decreases-choice_points
decreases-choice_points g l = length l.memory.choice_points - l.index
