use Rattle.std.proofs.Common.{◌≡◌, ◌<◌, ℕ, length, slice_index_or}
use Rattle.regress_backtrack.specs.State.{IsSlotUnsetAndUnlogged}
use Rattle.regress_backtrack.specs.declared.state.GroupOrLoopState.{GroupOrLoopState}
use Rattle.regress_backtrack.proofs.state.reset_all_slots.Given as goal

-- Each slot before `l.id` is unset and not in the undo log, and the number of slots is unchanged.
abbrev pub invariant-loop-id : goal.invariant-loop-id
invariant-loop-id l =
    ((k : ℕ) (d : GroupOrLoopState) → k < l.id → IsSlotUnsetAndUnlogged (slice_index_or l.slots.items k d)) × (length l.slots.items ≡ length l.initial.slots.items)
