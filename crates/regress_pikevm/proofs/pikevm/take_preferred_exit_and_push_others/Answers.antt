use Rattle.std.proofs.Common.{ap, sym, ◌∙◌, ◌++◌, ◌∷◌}
use Rattle.regress_machine.specs.Machine.{running, first_running_and_others_waiting}
use Rattle.regress_pikevm.specs.States.{machine_state_of, threads_of_stack, states_by_priority}
use Rattle.regress_pikevm.proofs.ExecutorTurnLemmas.{popped-none, scan-threads}
use Rattle.regress_pikevm.proofs.pikevm.take_preferred_exit_and_push_others.Goals as goal

pub returns-in_default : goal.returns-in_default
returns-in_default g c =
    let offset = g.P.PositionType.offset in
    ap (λ l. first_running_and_others_waiting (states_by_priority offset l) ++ threads_of_stack offset c.args.stack.now.items)
    (sym (popped-none c.args.states.items c.pop.new.self.items _ c.in_default.ensures.items c.in_default.ensures.cases.0 c.in_default.ensures.rest))

pub returns : goal.returns
returns g c =
    let offset = g.P.PositionType.offset in
    ap (λ l. running (machine_state_of offset c.in-Some.next) ∷ threads_of_stack offset l) c.in_ok-append.ensures.items
    ∙ scan-threads offset c.args.states.items c.pop.new.self.items c.args.stack.now.items c.in-Some.next c.in-Some.ensures.items
