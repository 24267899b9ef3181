use Rattle.std.proofs.Common.{◌≡◌, ◌<◌, ◌-◌, ap, ap₂, ◌∙◌, length, take, drop, arith}
use Rattle.std.proofs.lemmas.List.{length-take-le, take-take}
use Rattle.regress_backtrack.specs.State.{undone}
use Rattle.regress_backtrack.proofs.UndoLogLemmas.{undone-in-two}
use Rattle.regress_backtrack.proofs.state.BacktrackState.undo_to.Goals as goal

pub changes-preserved : goal.changes-preserved
changes-preserved c =
    let h = c.changes.self in
    let then = c.undo_last.new.self in
    let n = length h.log - 1 in
    let less : c.args.len < length h.log = omega (arith, c.changes-test.true, c.log_len.ensures) in
    let shorter : length then.log ≡ n = ap length c.undo_last.ensures.log ∙ length-take-le n h.log (omega arith) in
    record {
      groups = c.undo_last.ensures.groups ∙ c.changes.invariant.groups;
      choice_points = c.undo_last.ensures.choice_points ∙ c.changes.invariant.choice_points;
      inside = omega (arith, less, shorter);
      log = ap (take c.args.len) c.undo_last.ensures.log ∙ take-take c.args.len n h.log (omega (arith, less)) ∙ c.changes.invariant.log;
      slots = ap₂ (λ s l. undone s (drop c.args.len l)) c.undo_last.ensures.slots c.undo_last.ensures.log ∙ undone-in-two h.slots h.log c.args.len n (omega (arith, less)) (omega arith) ∙ c.changes.invariant.slots;
    }
