use Rattle.regress_backtrack.proofs.SlotChangeLemmas.{of-group}
use Rattle.regress_backtrack.proofs.state.BacktrackState.group_open_offset.Goals as goal

pub returns : goal.returns
returns c = let h = c.args.self.now in of-group (λ s. s.at) h.groups h.slots c.args.id c.value_of_slot.result c.requires c.value_of_slot.ensures.slot
