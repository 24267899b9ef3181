use Rattle.std.proofs.Common.{◌<◌, length, length-set, refl, ◌∙◌, arith}
use Rattle.regress_backtrack.specs.State.{slot_placeholder}
use Rattle.regress_backtrack.proofs.LogicalSlotLemmas.{fresh-more}
use Rattle.regress_backtrack.proofs.state.reset_all_slots.Goals as goal

pub loop-id-init : goal.loop-id-init
loop-id-init c = (λ k d less. absurd (omega (arith, less)), refl)

pub loop-id-preserved : goal.loop-id-preserved
loop-id-preserved c =
    let held = c.loop-id.invariant in
    let inside : c.loop-id.id < length c.loop-id.slots.items = omega (arith, c.loop-id-test.true, held.1, c.len-id-end.ensures) in
    (fresh-more c.loop-id.slots.items c.loop-id.id slot_placeholder (refl, omega arith) held.0 inside, length-set c.loop-id.slots.items c.loop-id.id slot_placeholder ∙ held.1)

pub returns-clause-fresh : goal.returns-clause-fresh
returns-clause-fresh c = λ k d less. c.loop-id.invariant.0 k d (omega (arith, less, c.loop-id-test.false, c.loop-id.invariant.1, c.len-id-end.ensures))
