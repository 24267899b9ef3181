use Rattle.std.proofs.Common.{◌≡◌, map, drop}
use Rattle.regex_meaning.specs.CompilationRelation.{ByteSeq, reversed_if_in_lookbehind, chunks}
use Rattle.regress_program.specs.EmitterStateAndAppendedCode.{emitter_state, with_insns_appended}
use Rattle.regress_program.proofs.emit.emitter.Emitter.emit_bytes.Given as goal

abbrev pub invariant-loop-at : goal.invariant-loop-at
invariant-loop-at l =
    with_insns_appended (map ByteSeq (drop l.at (reversed_if_in_lookbehind l.mode.behind (chunks l.bytes)))) (emitter_state l.self)
    ≡ with_insns_appended (map ByteSeq (reversed_if_in_lookbehind l.mode.behind (chunks l.bytes))) (emitter_state l.initial.self)
