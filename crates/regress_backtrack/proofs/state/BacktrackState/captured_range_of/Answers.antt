use Rattle.std.proofs.Common.{Some, None, ap, ◌∙◌}
use Rattle.std.specs.Prelude.{if◌then◌else◌}
use Rattle.regress_backtrack.specs.State.{range_of_group_slot}
use Rattle.regress_backtrack.proofs.SlotChangeLemmas.{of-group}
use Rattle.regress_backtrack.proofs.state.BacktrackState.captured_range_of.Goals as goal

pub returns-then-slot : goal.returns-then-slot
returns-then-slot c =
    let h = c.args.self.now in
    let s = c.value_of_slot-slot.result in
    of-group range_of_group_slot h.groups h.slots c.args.id s c.requires c.value_of_slot-slot.ensures.slot ∙ ap (λ b. Some (if b then Some (s.from, s.to) else None)) c.if-slot.true

pub returns-else-slot : goal.returns-else-slot
returns-else-slot c =
    let h = c.args.self.now in
    let s = c.value_of_slot-slot.result in
    of-group range_of_group_slot h.groups h.slots c.args.id s c.requires c.value_of_slot-slot.ensures.slot ∙ ap (λ b. Some (if b then Some (s.from, s.to) else None)) c.if-slot.false
