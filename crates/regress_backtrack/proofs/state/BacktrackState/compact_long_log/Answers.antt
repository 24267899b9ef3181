use Rattle.std.proofs.Common.{◌≤◌, length, subst, sym, take, arith}
use Rattle.std.proofs.lemmas.List.{length-map, length-take-le}
use Rattle.regress_backtrack.specs.State.{StateModel, logical_undo_entry}
use Rattle.regress_backtrack.proofs.LogCompactionLemmas.{compacted-there, compacted-seen}
use Rattle.regress_backtrack.proofs.state.BacktrackState.compact_long_log.Goals.{After-self-1}
use Rattle.regress_backtrack.proofs.state.BacktrackState.compact_long_log.Goals as goal

inside : (c : After-self-1) → c.args.from ≤ c.self.inside.log_len
inside c =
    let m = c.self.inside in
    let seen = subst (λ (h : StateModel). c.args.from ≤ length h.log) (sym c.self.view_is) c.requires in
    omega (arith, seen, length-map (take m.log_len m.log.items) (logical_undo_entry m.begun), length-take-le m.log_len m.log.items c.self.invariant.1)

pub invariant_of-self : goal.invariant_of-self
invariant_of-self c =
    let m = c.self.inside in
    let f = c.compact_changes-self-inside in
    compacted-there m.groups m.slots.items m.log_len m.free m.log.items m.choice_point_len m.choice_points.items c.self.invariant
    c.args.from (inside c) f.new.slots.items f.result f.new.log.items f.ensures.log f.ensures.shorter f.ensures.compacted

pub returns : goal.returns
returns c =
    let m = c.self.inside in
    let f = c.compact_changes-self-inside in
    rw (sym c.self.view_is)
    (compacted-seen m.groups m.slots.items m.log_len m.free m.log.items m.choice_point_len m.choice_points.items c.self.invariant
    c.args.from (inside c) f.new.slots.items f.result f.new.log.items f.ensures.log f.ensures.shorter f.ensures.compacted
    m.begun (take m.choice_point_len m.choice_points.items))
