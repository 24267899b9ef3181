use Rattle.std.proofs.Common.{◌≡◌, ◌≤◌, [], Some}
use Rattle.regex_pattern_front.specs.AstToSpecTree.{tree_of}
use Rattle.regress_program.specs.CompilationOfTreesAsFunction.{compiled}
use Rattle.regress_bounded.specs.BoundedState.{BoundedAttempt, AttemptHasState, HasAttemptState, entry_of_current_thread}
use Rattle.regress_bounded.proofs.memoizing_executor.run.Given as goal

abbrev pub invariant-search : goal.invariant-search
invariant-search g l =
    let program = compiled (tree_of l.searched.program.now) in
    let text = g.Input.InputIndexer.text l.searched.input in
    let offset = g.Input.Position.PositionType.offset in
    record {
      stands : HasAttemptState offset program text (entry_of_current_thread offset l.next) l.stack.items l.progress;
      from : (b : BoundedAttempt) → AttemptHasState offset program text b (entry_of_current_thread offset (Some l.fn.start)) [] l.fn.progress → AttemptHasState offset program text b (entry_of_current_thread offset l.next) l.stack.items l.progress;
      memo_analysis : l.progress.memo.memo_analysis ≡ l.fn.progress.memo.memo_analysis;
      left : l.progress.left ≤ l.fn.progress.left;
    }

abbrev pub decreases-search : goal.decreases-search
decreases-search g l = l.progress.left
