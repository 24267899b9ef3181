use Rattle.std.proofs.Common.{◌≡◌}
use Rattle.regress_program.specs.CompilationOfTreesAsFunction.{group_reset_insns}
use Rattle.regress_program.specs.EmitterStateAndAppendedCode.{emitter_state, with_insns_appended}
use Rattle.regress_program.proofs.emit.emitter.Emitter.emit_group_resets.Given as goal

abbrev pub invariant-loop-id : goal.invariant-loop-id
invariant-loop-id l = with_insns_appended (group_reset_insns l.id l.end) (emitter_state l.self) ≡ with_insns_appended (group_reset_insns l.initial.id l.end) (emitter_state l.initial.self)
