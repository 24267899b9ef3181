use Rattle.std.proofs.Common.{◌++◌}
use Rattle.regex_pattern_front.specs.AstToSpecTree.{tree_of}
use Rattle.regress_input.specs.CharAndByteReadsFromOffset.{direction_of_forward_flag}
use Rattle.regress_program.specs.CompilationOfTreesAsFunction.{compiled}
use Rattle.regress_pikevm.specs.States.{machine_state_of, current_thread_if_any, threads_of_stack}
use Rattle.regress_search.specs.AttemptsAndStarts.{steps_for_attempt, search_from}
use Rattle.regress_machine.specs.InsnEffects.{end_of_search}
use Rattle.regress_machine.specs.ExecutorLoopInvariantAndSpentSteps.{steps_of}
use Rattle.regress_machine.proofs.RemainingThreads.{Remains, steps_left}
use Rattle.regress_pikevm.proofs.pikevm.+run.Given as goal

abbrev pub decreases-run : goal.decreases-run
decreases-run g l =
    let offset = g.Input.Position.PositionType.offset in
    steps_of (search_from (tree_of l.searched.now.program.now) (g.Input.InputIndexer.text l.searched.now.input) (offset l.at) (direction_of_forward_flag l.forward) (machine_state_of offset l.start))

abbrev pub invariant-search : goal.invariant-search
invariant-search g l =
    let tree = tree_of l.searched.program.now in
    let text = g.Input.InputIndexer.text l.searched.input in
    let offset = g.Input.Position.PositionType.offset in
    Remains (compiled tree) text (steps_for_attempt tree text (offset l.fn.at)) (direction_of_forward_flag l.fn.forward)
    (steps_of (search_from tree text (offset l.fn.at) (direction_of_forward_flag l.fn.forward) (machine_state_of offset l.fn.start)))
    (end_of_search (search_from tree text (offset l.fn.at) (direction_of_forward_flag l.fn.forward) (machine_state_of offset l.fn.start)))
    (current_thread_if_any offset l.next ++ threads_of_stack offset l.stack.items)

abbrev pub decreases-search : goal.decreases-search
decreases-search g l =
    let tree = tree_of l.searched.program.now in
    let text = g.Input.InputIndexer.text l.searched.input in
    let offset = g.Input.Position.PositionType.offset in
    steps_left (compiled tree) text (steps_for_attempt tree text (offset l.fn.at)) (direction_of_forward_flag l.fn.forward) (current_thread_if_any offset l.next ++ threads_of_stack offset l.stack.items)
