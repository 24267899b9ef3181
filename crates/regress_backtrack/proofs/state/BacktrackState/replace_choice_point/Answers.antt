use Rattle.std.proofs.Common.{◌<◌, ap, sym, subst, ◌∙◌, slice_set, length, map, take, arith}
use Rattle.std.proofs.Math.Seq.{take-set-lt}
use Rattle.std.proofs.lemmas.List.{length-take-le}
use Rattle.regress_backtrack.specs.State.{StateModel, logical_slot_value, logical_undo_entry, with_choice_point_list}
use Rattle.regress_backtrack.proofs.state.BacktrackState.replace_choice_point.Goals as goal

pub returns : goal.returns
returns c =
    let m = c.self.inside in
    let inside : c.args.index < length (take m.choice_point_len m.choice_points.items) = subst (λ (h : StateModel). c.args.index < length h.choice_points) (sym c.self.view_is) c.requires in
    let less : c.args.index < m.choice_point_len = omega (arith, length-take-le m.choice_point_len m.choice_points.items c.self.invariant.2, inside) in
    let prefix : StateModel = record { groups = m.groups; slots = map (logical_slot_value m.begun) m.slots.items; log = map (logical_undo_entry m.begun) (take m.log_len m.log.items); choice_points = take m.choice_point_len m.choice_points.items } in
    ap (λ l. with_choice_point_list l prefix) (take-set-lt m.choice_point_len m.choice_points.items c.args.index c.args.mark less)
    ∙ ap (λ (h : StateModel). with_choice_point_list (slice_set h.choice_points c.args.index c.args.mark) h) c.self.view_is
