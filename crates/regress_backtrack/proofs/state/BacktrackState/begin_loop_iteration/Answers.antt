use Rattle.regress_backtrack.specs.State.{StateModel, SetsSlotUndoably, with_loop_iteration}
use Rattle.std.proofs.Common.{ap, subst}
use Rattle.std.specs.Prelude.{◌+◌, OnOk, false, true}
use Rattle.regress_backtrack.specs.declared.state.GroupOrLoopState.{GroupOrLoopState}
use Rattle.regress_backtrack.proofs.SlotChangeLemmas.{ok-more, becomes, enters}
use Rattle.regress_backtrack.proofs.state.BacktrackState.begin_loop_iteration.Goals as goal

pub returns-clause-entered : goal.returns-clause-entered
returns-clause-entered c =
    let h = c.args.self.now in
    let entered : GroupOrLoopState = record { at = c.args.at; from = c.args.k; to = 0; noted = 0; has_range = false; is_set = true } in
    ok-more c.set-2.result (becomes (with_loop_iteration c.args.id c.args.k c.args.at) (h.groups + c.args.id) entered h c.set-2.new.self
    (λ ip pos. enters h.groups h.slots ip pos c.args.id entered)) (subst (λ g. OnOk c.set-2.result (SetsSlotUndoably (g + c.args.id) entered h c.set-2.new.self)) (ap (λ (h : StateModel). h.groups) c.set.view_is) c.set-2.ensures.set)
