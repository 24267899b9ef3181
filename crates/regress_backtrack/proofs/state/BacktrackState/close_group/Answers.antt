use Rattle.std.proofs.Common.{refl, sym}
use Rattle.std.proofs.lemmas.Option.{get_or_from_slice_get}
use Rattle.std.specs.Prelude.{true}
use Rattle.regress_backtrack.specs.State.{with_group_range}
use Rattle.regress_backtrack.specs.declared.state.GroupOrLoopState.{GroupOrLoopState}
use Rattle.regress_backtrack.proofs.SlotChangeLemmas.{ok-more, becomes, keeps}
use Rattle.regress_backtrack.proofs.state.BacktrackState.close_group.Goals as goal

pub returns-clause-closed : goal.returns-clause-closed
returns-clause-closed c =
    let h = c.args.self.now in
    let closed : GroupOrLoopState = record (c.value_of_slot.result) { from = c.args.from; to = c.args.to; has_range = true; is_set = true } in
    ok-more c.set.result (becomes (with_group_range c.args.id c.args.from c.args.to) c.args.id closed h c.set.new.self
    (λ ip pos. keeps h.groups h.slots ip pos c.args.id c.requires closed c.value_of_slot.result (sym (get_or_from_slice_get h.slots c.args.id c.value_of_slot.result c.value_of_slot.result c.value_of_slot.ensures.slot)) refl)) c.set.ensures.set
