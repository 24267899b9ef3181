use Rattle.std.proofs.Common.{◌≡◌, ◌+◌, drop, length}
use Rattle.regress_program.specs.CompilationOfTreesAsFunction.{strings_code, strings_size}
use Rattle.regress_program.specs.EmitterStateAndAppendedCode.{emitter_state, with_insns_appended, strings_as_code_points}
use Rattle.regress_program.proofs.emit.emitter.Emitter.emit_strings.Given as goal

abbrev pub invariant-loop-at : goal.invariant-loop-at
invariant-loop-at l = record {
  target : l.target ≡ length (emitter_state l.self).insns + strings_size (drop l.at (strings_as_code_points l.strings));
  code : with_insns_appended (strings_code l.mode.unicode l.icase l.mode.behind (drop l.at (strings_as_code_points l.strings)) (length (emitter_state l.self).insns)) (emitter_state l.self)
      ≡ with_insns_appended (strings_code l.mode.unicode l.icase l.mode.behind (strings_as_code_points l.strings) (length (emitter_state l.initial.self).insns)) (emitter_state l.initial.self);
}
