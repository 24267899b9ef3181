use Rattle.std.proofs.Common.{◌<◌, length, subst, sym, take, arith}
use Rattle.regress_backtrack.specs.State.{StateModel, undo_entry_logged_for_slot, log_len_at_choice_point}
use Rattle.regress_backtrack.specs.UndoLog.{IsLoggedOnce}
use Rattle.regress_backtrack.proofs.LogicalSlotLemmas.{length-seen, set-there, set-seen}
use Rattle.regress_backtrack.proofs.state.BacktrackState.set.Goals.{After-self-1}
use Rattle.regress_backtrack.proofs.state.BacktrackState.set.Goals as goal

inside : (c : After-self-1) → c.args.slot < length c.self.inside.slots.items
inside c =
    let seen = subst (λ (h : StateModel). c.args.slot < length h.slots) (sym c.self.view_is) c.requires.slot in
    omega (arith, seen, length-seen c.self.inside.begun c.self.inside.slots.items)

noted : (c : After-self-1) → IsLoggedOnce (undo_entry_logged_for_slot c.self.inside.slots.items c.args.slot) (log_len_at_choice_point (take c.self.inside.choice_point_len c.self.inside.choice_points.items))
    c.self.inside.log_len c.self.inside.log.items c.log_change.new.log_len c.log_change.new.log.items c.in_ok-noted.noted
noted c =
    let m = c.self.inside in
    subst (λ choice_points. IsLoggedOnce (undo_entry_logged_for_slot m.slots.items c.args.slot) (log_len_at_choice_point (take m.choice_point_len choice_points)) m.log_len m.log.items c.log_change.new.log_len c.log_change.new.log.items c.in_ok-noted.noted)
    c.deref.ensures.value
    (subst (λ slots. IsLoggedOnce (undo_entry_logged_for_slot slots c.args.slot) (log_len_at_choice_point (take m.choice_point_len c.deref.result.now)) m.log_len m.log.items c.log_change.new.log_len c.log_change.new.log.items c.in_ok-noted.noted)
    c.deref-2.ensures.value c.in_ok-noted.ensures.noted)

pub invariant_of-self-2 : goal.invariant_of-self-2
invariant_of-self-2 c =
    let m = c.self.inside in
    set-there m.groups m.slots.items m.log_len m.free m.log.items m.choice_point_len m.choice_points.items c.self.invariant c.args.slot c.args.value (inside c)
    c.in_ok-noted.noted c.log_change.new.log_len c.log_change.new.free c.log_change.new.log.items c.in_ok-noted.ensures.log_len c.in_ok-noted.ensures.free
    (log_len_at_choice_point (take m.choice_point_len m.choice_points.items)) (noted c)

pub returns-clause-set : goal.returns-clause-set
returns-clause-set c =
    let m = c.self.inside in
    rw (sym c.self.view_is)
    (set-seen m.groups m.slots.items m.log_len m.free m.log.items m.choice_point_len m.choice_points.items c.self.invariant c.args.slot c.args.value (inside c)
    c.in_ok-noted.noted c.log_change.new.log_len c.log_change.new.free c.log_change.new.log.items c.in_ok-noted.ensures.log_len c.in_ok-noted.ensures.free
    m.begun (take m.choice_point_len m.choice_points.items) c.requires.is_set c.requires.noted (noted c))
