use Rattle.std.proofs.Common.{true, refl, ap, true≢false, sym}
use Rattle.regex_pattern_front.specs.AstToSpecTree.{tree_of}
use Rattle.regress_program.specs.OptimizedTreeUnlessNoOpt.{planned_tree}
use Rattle.regress_search.specs.AttemptsAndStarts.{ticks_of_attempt_at}
use Rattle.regress_backtrack.specs.ProgramsAndPlans.{executed_tree_of}
use Rattle.regress_backtrack.specs.State.{current_thread_state_of}
use Rattle.regress_backtrack.proofs.PaidAttemptLemmas.{paid-with-tree}
use Rattle.regress_backtrack.proofs.PlannedTreeLemmas.{can-be, can-run, ends-context, spends-unlimited}
use Rattle.regress_backtrack.proofs.work_limited.WorkPayingExecutorSingleAttemptExecutor.attempt.Goals as goal

pub attempt-requires-clause-executable : goal.attempt-requires-clause-executable
attempt-requires-clause-executable g c =
    let s = c.args.self.now.executor.search in
    (can-run s.program.wide s.same s.searched.well_formed s.searched.unicode s.searched.bytes, c.requires)

pub returns-clause-found : goal.returns-clause-found
returns-clause-found g c =
    let s = c.args.self.now.executor.search in
    let can = can-be s.same s.searched.well_formed s.searched.unicode s.searched.bytes in
    let offset = g.Input.Position.PositionType.offset in
    ends-context offset s.program.wide (tree_of s.program.regex) (g.Input.InputIndexer.text s.searched.input) can.well_formed (offset c.args.pos)
    (current_thread_state_of c.attempt.new.memory 0 0).groups c.attempt.result c.attempt.ensures.found

pub returns-clause-steps : goal.returns-clause-steps
returns-clause-steps g c =
    let s = c.args.self.now.executor.search in
    let text = g.Input.InputIndexer.text s.searched.input in
    let at = g.Input.Position.PositionType.offset c.args.pos in
    spends-unlimited (ticks_of_attempt_at (executed_tree_of s.program) text at) (ticks_of_attempt_at (tree_of s.program.regex) text at) c.attempt.result c.attempt.ensures.steps

pub returns-clause-work : goal.returns-clause-work
returns-clause-work g c = λ ordered. absurd (true≢false (sym ordered.is))

pub returns-clause-left : goal.returns-clause-left
returns-clause-left g c = (c.attempt.ensures.paid refl refl refl).less

pub returns-clause-within : goal.returns-clause-within
returns-clause-within g c = (c.attempt.ensures.paid refl refl refl).within

pub returns-clause-cost : goal.returns-clause-cost
returns-clause-cost g c =
    let s = c.args.self.now.executor.search in
    (paid-with-tree (ap (λ wide. planned_tree wide (tree_of s.program.regex)) s.wide) (c.attempt.ensures.paid refl refl refl)).cost

pub invariant_of-self : goal.invariant_of-self
invariant_of-self g c = record { spent = (c.attempt.ensures.paid refl refl refl).spent }
