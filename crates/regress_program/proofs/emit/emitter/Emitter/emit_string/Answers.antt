use Rattle.std.proofs.Common.{get_or}
use Rattle.std.proofs.lemmas.Option.{slice_get-get_or}
use Rattle.regex_meaning.specs.Text.{expand_code_point}
use Rattle.regex_meaning.specs.CompilationRelation.{case_variants_insn, reversed_if_in_lookbehind}
use Rattle.regress_program.specs.EmitterStateAndAppendedCode.{emitter_state}
use Rattle.regress_program.proofs.ByteAndStringCodeLemmas.{reversed_if_in_lookbehind-next, parts_step}
use Rattle.regress_program.proofs.emit.emitter.Emitter.emit_string.Goals as goal

pub loop-at-preserved : goal.loop-at-preserved
loop-at-preserved c =
    let string = c.args.string.now in
    let at = c.loop-at.at in
    let x = get_or string c.index_in_emission_order.result 0 in
    let next = reversed_if_in_lookbehind-next c.args.mode.behind string at c.index_in_emission_order.result x c.loop-at-test.true c.index_in_emission_order.ensures.value (slice_get-get_or string c.index_in_emission_order.result 0 c.index_in_emission_order.ensures.within) in
    parts_step (λ y. case_variants_insn (expand_code_point y c.args.icase c.args.mode.unicode)) (reversed_if_in_lookbehind c.args.mode.behind string) at x
    (emitter_state c.loop-at.self) (emitter_state c.emit_spellings.new.self) _ next c.in_ok-emit_spellings.ensures c.loop-at.invariant
