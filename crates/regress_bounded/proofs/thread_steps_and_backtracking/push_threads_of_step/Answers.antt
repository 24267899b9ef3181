use Rattle.std.proofs.Common.{◌∷◌, [], refl, sym, append-nil}
use Rattle.regress_bounded.proofs.ThreadTurnLemmas.{leads-can, arm-leads, arm-threads, taken-threads}
use Rattle.regress_bounded.proofs.thread_steps_and_backtracking.push_threads_of_step.Goals as goal

pub execute_insn-requires-clause-executable : goal.execute_insn-requires-clause-executable
execute_insn-requires-clause-executable g c = leads-can _ c.requires.leads

-- ---- None of these

pub unreachable-requires : goal.unreachable-requires
unreachable-requires g c = absurd (arm-leads g.Input.Position.PositionType.offset c.in_ok-execute_insn.ensures c.in-Lookaround.is c.requires.leads)

pub unreachable-requires-in-Accept : goal.unreachable-requires-in-Accept
unreachable-requires-in-Accept g c = absurd (arm-leads g.Input.Position.PositionType.offset c.in_ok-execute_insn.ensures c.in-Accept.is c.requires.leads)

-- ---- The threads that it leaves

pub returns-in-Dead : goal.returns-in-Dead
returns-in-Dead g c = record { states = []; are = arm-threads g.Input.Position.PositionType.offset c.in_ok-execute_insn.ensures c.in-Dead.is; taken = (refl, refl) }

pub returns-in-Continue : goal.returns-in-Continue
returns-in-Continue g c = record {
  states = c.in-Continue.next ∷ [];
  are = arm-threads g.Input.Position.PositionType.offset c.in_ok-execute_insn.ensures c.in-Continue.is;
  taken = record { others = []; is = refl; wait = sym (append-nil c.args.stack.now.items) };
}

pub returns-in_ok-push_entry-in-Fork : goal.returns-in_ok-push_entry-in-Fork
returns-in_ok-push_entry-in-Fork g c = record {
  states = c.in-Fork.other ∷ c.in-Fork.next ∷ [];
  are = arm-threads g.Input.Position.PositionType.offset c.in_ok-execute_insn.ensures c.in-Fork.is;
  taken = record { others = c.in-Fork.other ∷ []; is = refl; wait = c.in_ok-push_entry-in-Fork.ensures };
}

pub returns-in-CharLoopExits : goal.returns-in-CharLoopExits
returns-in-CharLoopExits g c =
    taken-threads g.Input.Position.PositionType.offset _ c.in-CharLoopExits.states.items c.args.stack.now.items c.take_preferred_and_push_others.new.stack.items
    (arm-threads g.Input.Position.PositionType.offset c.in_ok-execute_insn.ensures c.in-CharLoopExits.is) c.take_preferred_and_push_others.result c.take_preferred_and_push_others.ensures
