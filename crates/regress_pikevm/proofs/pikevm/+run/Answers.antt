use Rattle.std.proofs.Common.{ℕ, ap, sym, subst, ◌∙◌, ◌++◌, ◌∷◌}
use Rattle.regex_pattern_front.specs.AstToSpecTree.{tree_of}
use Rattle.regress_input.specs.CharAndByteReadsFromOffset.{direction_of_forward_flag}
use Rattle.regress_program.specs.CompilationOfTreesAsFunction.{compiled}
use Rattle.regress_machine.specs.Machine.{running, first_running_and_others_waiting, after_lookaround}
use Rattle.regress_pikevm.specs.States.{machine_state_of, effect_of_next_states, current_thread_if_any, threads_of_stack, states_by_priority}
use Rattle.regress_search.specs.AttemptsAndStarts.{steps_for_attempt, search_from}
use Rattle.regress_machine.specs.InsnEffects.{end_of_search}
use Rattle.regress_machine.specs.ExecutorLoopInvariantAndSpentSteps.{steps_of}
use Rattle.regress_machine.proofs.RemainingThreads.{Remains, remains-begin}
use Rattle.regress_pikevm.proofs.ExecutorTurnLemmas.{TakenUp, less-by, turn-can, turn-inside, turn-dead, turn-go, turn-fork_thread_at_insn, turn-scans, taken-up, reads-literals, turn-ends, turn-ask}
use Rattle.regress_pikevm.proofs.ExecutorTurnLemmas.{turn-resumed, turn-none}
use Rattle.regress_pikevm.proofs.pikevm.+run.Given.{Over}
use Rattle.regress_pikevm.proofs.pikevm.+run.Goals.{In-Some}
use Rattle.regress_pikevm.proofs.pikevm.+run.Goals as goal

-- the search that runs, and what is left of it
abbrev IsTaken : (g : Over) (n : ℕ) (c : In-Some g n) → Type 0
IsTaken g n c =
    let tree = tree_of c.args.searched.now.program.now in
    let text = g.Input.InputIndexer.text c.args.searched.now.input in
    let offset = g.Input.Position.PositionType.offset in
    let found = search_from tree text (offset c.args.at) (direction_of_forward_flag c.args.forward) (machine_state_of offset c.args.start) in
    TakenUp offset (compiled tree) text (steps_for_attempt tree text (offset c.args.at)) (direction_of_forward_flag c.args.forward) (steps_of found) (end_of_search found)
    (current_thread_if_any offset c.search.next ++ threads_of_stack offset c.search.stack.items) c.in-Some.state c.current_or_popped_state.new.stack.items

taken : (g : Over) (n : ℕ) (c : In-Some g n) → IsTaken g n c
taken g n c =
    taken-up g.Input.Position.PositionType.offset c.search.invariant (g.met.Input.InputIndexer.is_text c.args.searched.now.input)
    (reads-literals (tree_of c.args.searched.now.program.now) _ c.args.searched.now.bytes) c.in-Some.state c.current_or_popped_state.new.stack.items c.in-Some.ensures

pub search-init : goal.search-init
search-init g n c =
    let searched = c.args.searched.now in
    let tree = tree_of searched.program.now in
    let program = compiled tree in
    let text = g.Input.InputIndexer.text searched.input in
    let offset = g.Input.Position.PositionType.offset in
    let turns = steps_for_attempt tree text (offset c.args.at) in
    let d = direction_of_forward_flag c.args.forward in
    let top = steps_of (search_from tree text (offset c.args.at) d (machine_state_of offset c.args.start)) in
    let end = end_of_search (search_from tree text (offset c.args.at) d (machine_state_of offset c.args.start)) in
    subst (λ l. Remains program text turns d top end (running (machine_state_of offset c.args.start) ∷ threads_of_stack offset l)) (sym c.clear.ensures.items)
    (remains-begin program text turns d (machine_state_of offset c.args.start) c.requires.inside c.requires.terminates)

pub returns-in_default : goal.returns-in_default
returns-in_default g n c =
    turn-none c.search.invariant c.in_default.ensures

pub execute_in_direction-requires-clause-executable : goal.execute_in_direction-requires-clause-executable
execute_in_direction-requires-clause-executable g n c = turn-can (taken g n (goal.at.execute_in_direction-requires-clause-executable g n c).In-Some)

pub execute_in_direction-requires-clause-inside : goal.execute_in_direction-requires-clause-inside
execute_in_direction-requires-clause-inside g n c = turn-inside (taken g n (goal.at.execute_in_direction-requires-clause-inside g n c).In-Some)

pub search-preserved-in-Dead : goal.search-preserved-in-Dead
search-preserved-in-Dead g n c = (turn-dead (taken g n (goal.at.search-preserved-in-Dead g n c).In-Some) _ c.in_ok-execute_in_direction.ensures c.in-Dead.is).remains

pub search-smaller-in-Dead : goal.search-smaller-in-Dead
search-smaller-in-Dead g n c = (turn-dead (taken g n (goal.at.search-smaller-in-Dead g n c).In-Some) _ c.in_ok-execute_in_direction.ensures c.in-Dead.is).fewer

pub search-preserved-in-Continue : goal.search-preserved-in-Continue
search-preserved-in-Continue g n c = (turn-go (taken g n (goal.at.search-preserved-in-Continue g n c).In-Some) _ c.in_ok-execute_in_direction.ensures c.in-Continue.state c.in-Continue.is).remains

pub search-smaller-in-Continue : goal.search-smaller-in-Continue
search-smaller-in-Continue g n c = (turn-go (taken g n (goal.at.search-smaller-in-Continue g n c).In-Some) _ c.in_ok-execute_in_direction.ensures c.in-Continue.state c.in-Continue.is).fewer

pub search-preserved-in-Fork : goal.search-preserved-in-Fork
search-preserved-in-Fork g n c = (turn-fork_thread_at_insn (taken g n (goal.at.search-preserved-in-Fork g n c).In-Some) _ c.in_ok-execute_in_direction.ensures c.in-Fork.preferred c.in-Fork.other _ c.in-Fork.is c.in_ok-push-in-Fork.ensures.items).remains

pub search-smaller-in-Fork : goal.search-smaller-in-Fork
search-smaller-in-Fork g n c = (turn-fork_thread_at_insn (taken g n (goal.at.search-smaller-in-Fork g n c).In-Some) _ c.in_ok-execute_in_direction.ensures c.in-Fork.preferred c.in-Fork.other _ c.in-Fork.is c.in_ok-push-in-Fork.ensures.items).fewer

pub search-preserved-in-CharLoopExits : goal.search-preserved-in-CharLoopExits
search-preserved-in-CharLoopExits g n c =
    let offset = g.Input.Position.PositionType.offset in
    (turn-scans (taken g n (goal.at.search-preserved-in-CharLoopExits g n c).In-Some) c.in-CharLoopExits.field-0 (first_running_and_others_waiting (states_by_priority offset c.in-CharLoopExits.states.items)) c.in_ok-execute_in_direction.ensures (ap (effect_of_next_states offset) (sym c.in-CharLoopExits.is))
    c.in_ok-next-in-CharLoopExits.ensures).remains

pub search-smaller-in-CharLoopExits : goal.search-smaller-in-CharLoopExits
search-smaller-in-CharLoopExits g n c =
    let offset = g.Input.Position.PositionType.offset in
    (turn-scans (taken g n (goal.at.search-smaller-in-CharLoopExits g n c).In-Some) c.in-CharLoopExits.field-0 (first_running_and_others_waiting (states_by_priority offset c.in-CharLoopExits.states.items)) c.in_ok-execute_in_direction.ensures (ap (effect_of_next_states offset) (sym c.in-CharLoopExits.is))
    c.in_ok-next-in-CharLoopExits.ensures).fewer

pub run-requires : goal.run-requires
run-requires g n c =
    let up = taken g n (goal.at.run-requires g n c).In-Some in
    let asked = turn-ask up _ c.in_ok-execute_in_direction.ensures c.in-Lookaround.forward c.in-Lookaround.negate c.in-Lookaround.inner c.in-Lookaround.after c.in-Lookaround.is in
    λ κs h. (less-by _ _ n asked.fewer c.decreases, (h.0, (h.1.0, (h.1.1.0, (h.1.1.1.0, (h.1.1.1.1.0, (h.1.1.1.1.1, (asked.inside, asked.answers))))))))

pub search-preserved : goal.search-preserved
search-preserved g n c =
    (turn-resumed (taken g n (goal.at.search-preserved g n c).In-Some) _ c.in_ok-execute_in_direction.ensures c.in-Lookaround.forward c.in-Lookaround.negate c.in-Lookaround.inner c.in-Lookaround.after c.in-Lookaround.is
    (c.resume_after_lookaround-next.ensures ∙ ap (after_lookaround c.in-Lookaround.negate (machine_state_of g.Input.Position.PositionType.offset c.in-Lookaround.after)) c.in_ok-found-in-Lookaround.ensures)).remains

pub search-smaller : goal.search-smaller
search-smaller g n c =
    (turn-resumed (taken g n (goal.at.search-smaller g n c).In-Some) _ c.in_ok-execute_in_direction.ensures c.in-Lookaround.forward c.in-Lookaround.negate c.in-Lookaround.inner c.in-Lookaround.after c.in-Lookaround.is
    (c.resume_after_lookaround-next.ensures ∙ ap (after_lookaround c.in-Lookaround.negate (machine_state_of g.Input.Position.PositionType.offset c.in-Lookaround.after)) c.in_ok-found-in-Lookaround.ensures)).fewer

pub returns-in-Accept : goal.returns-in-Accept
returns-in-Accept g n c =
    let offset = g.Input.Position.PositionType.offset in
    turn-ends (taken g n (goal.at.returns-in-Accept g n c).In-Some) (machine_state_of offset c.in-Accept.end) c.in_ok-execute_in_direction.ensures (ap (effect_of_next_states offset) (sym c.in-Accept.is))
