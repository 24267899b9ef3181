use Rattle.std.proofs.Common.{◌<◌, length, subst, sym, take}
use Rattle.regress_backtrack.specs.State.{StateModel}
use Rattle.regress_backtrack.proofs.LogicalSlotLemmas.{some-logged, back-there, back-seen}
use Rattle.regress_backtrack.proofs.state.BacktrackState.undo_last.Goals.{After-self-2-1}
use Rattle.regress_backtrack.proofs.state.BacktrackState.undo_last.Goals as goal

some : (c : After-self-2-1) → 0 < c.self.inside.log_len
some c = some-logged c.self.inside.begun c.self.inside.log_len c.self.inside.log.items (subst (λ (h : StateModel). 0 < length h.log) (sym c.self.view_is) c.requires)

pub invariant_of-self : goal.invariant_of-self
invariant_of-self c =
    let m = c.self.inside in
    back-there m.groups m.slots.items m.log_len m.free m.log.items m.choice_point_len m.choice_points.items c.self.invariant (some c) c.index-change.result.now c.index-change.ensures

pub returns : goal.returns
returns c =
    let m = c.self.inside in
    rw (sym c.self.view_is)
    (back-seen m.groups m.slots.items m.log_len m.free m.log.items m.choice_point_len m.choice_points.items c.self.invariant (some c) c.index-change.result.now c.index-change.ensures
    m.begun (take m.choice_point_len m.choice_points.items))
