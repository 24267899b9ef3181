use Rattle.regex_pattern_front.specs.AstToSpecTree.{tree_of}
use Rattle.regress_backtrack.proofs.PlannedTreeLemmas.{can-be}
use Rattle.regress_backtrack.proofs.step_limited.LimitedExecutorSingleAttemptExecutor.next_start_after_failure.Goals as goal

pub returns-clause-next : goal.returns-clause-next
returns-clause-next c =
    let s = c.args.self.now.executor.search in
    let can = can-be s.same s.searched.well_formed s.searched.unicode s.searched.bytes in
    (c.next_start_to_try.ensures (tree_of s.program.regex) c.args.self.now.start_predicate_is_of_tree).skips can.well_formed

pub returns-clause-counted : goal.returns-clause-counted
returns-clause-counted c = λ limited. (c.next_start_to_try.ensures _ c.args.self.now.start_predicate_is_of_tree).counted
