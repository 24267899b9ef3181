use Rattle.std.proofs.Common.{◌≡◌, true, length}
use Rattle.regress_program.specs.EmitterStateAndAppendedCode.{node_to_emit_in_mode, emitter_state, with_code}
use Rattle.regress_program.specs.PendingEmission.{are_emittable, total_measure, with_all_pending}
use Rattle.regress_program.proofs.emit.emitter.Emitter.emit.Given as goal

abbrev pub invariant-loop-next : goal.invariant-loop-next
invariant-loop-next l = record {
  code : with_all_pending l.rest.items (emitter_state l.self) ≡ with_code l.fn.mode.unicode l.fn.mode.behind (node_to_emit_in_mode l.fn.mode l.fn.node) (emitter_state l.fn.self);
  ready : are_emittable (length (emitter_state l.self).insns) l.rest.items ≡ true;
}

abbrev pub decreases-loop-next : goal.decreases-loop-next
decreases-loop-next l = total_measure l.rest.items
