use Rattle.std.proofs.Common.{refl, sym}
use Rattle.std.proofs.lemmas.Option.{get_or_from_slice_get}
use Rattle.std.specs.Prelude.{false, true}
use Rattle.regress_backtrack.specs.State.{state_with_group_unset}
use Rattle.regress_backtrack.proofs.SlotChangeLemmas.{ok-more, becomes, keeps}
use Rattle.regress_backtrack.proofs.state.BacktrackState.reset_group.Goals as goal

pub returns-clause-reset : goal.returns-clause-reset
returns-clause-reset c =
    let h = c.args.self.now in
    let reset = record (c.value_of_slot.result) { has_range = false; is_set = true } in
    ok-more c.set.result (becomes (state_with_group_unset c.args.id) c.args.id reset h c.set.new.self
    (λ ip pos. keeps h.groups h.slots ip pos c.args.id c.requires reset c.value_of_slot.result (sym (get_or_from_slice_get h.slots c.args.id c.value_of_slot.result c.value_of_slot.result c.value_of_slot.ensures.slot)) refl)) c.set.ensures.set
