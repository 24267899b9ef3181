use Rattle.std.proofs.Common.{◌≡◌, map, drop}
use Rattle.regex_meaning.specs.Text.{expand_code_point}
use Rattle.regex_meaning.specs.CompilationRelation.{case_variants_insn, reversed_if_in_lookbehind}
use Rattle.regress_program.specs.EmitterStateAndAppendedCode.{emitter_state, with_insns_appended}
use Rattle.regress_program.proofs.emit.emitter.Emitter.emit_string.Given as goal

abbrev pub invariant-loop-at : goal.invariant-loop-at
invariant-loop-at l =
    with_insns_appended (map (λ c. case_variants_insn (expand_code_point c l.icase l.mode.unicode)) (drop l.at (reversed_if_in_lookbehind l.mode.behind l.string))) (emitter_state l.self)
    ≡ with_insns_appended (map (λ c. case_variants_insn (expand_code_point c l.icase l.mode.unicode)) (reversed_if_in_lookbehind l.mode.behind l.string)) (emitter_state l.initial.self)
