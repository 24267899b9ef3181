use Rattle.std.proofs.Common.{◌*◌, ◌<◌, ◌∙◌, sym, arith, length, take, drop}
use Rattle.regex_meaning.specs.CompilationRelation.{ByteSeq, reversed_if_in_lookbehind, chunks}
use Rattle.regress_program.specs.EmitterStateAndAppendedCode.{emitter_state}
use Rattle.regress_program.proofs.ByteAndStringCodeLemmas.{chunk_begins, chunk_at, reversed_if_in_lookbehind-next, parts_step, parts_end, with_code-byte_sequence}
use Rattle.regress_program.proofs.emit.emitter.Emitter.emit_bytes.Goals as goal
use Rattle.regress_program.proofs.AppendedCodeLemmas.{length-reversed_if_in_lookbehind}

pub emit_chunk-requires : goal.emit_chunk-requires
emit_chunk-requires c =
    let within : c.index_in_emission_order.result < length (chunks c.args.bytes.now) = omega (arith, c.index_in_emission_order.ensures.within, c.chunk_count-count.ensures) in
    chunk_begins c.args.bytes.now c.index_in_emission_order.result within

pub loop-at-preserved : goal.loop-at-preserved
loop-at-preserved c =
    let bytes = c.args.bytes.now in
    let at = c.loop-at.at in
    let within : c.index_in_emission_order.result < length (chunks bytes) = omega (arith, c.index_in_emission_order.ensures.within, c.chunk_count-count.ensures) in
    let here : at < length (chunks bytes) = omega (arith, c.chunk_count-count.ensures, c.loop-at-test.true) in
    let begins : c.index_in_emission_order.result * 16 < length bytes = chunk_begins bytes c.index_in_emission_order.result within in
    let next = reversed_if_in_lookbehind-next c.args.mode.behind (chunks bytes) at c.index_in_emission_order.result (take 16 (drop (c.index_in_emission_order.result * 16) bytes)) here (rw (← c.chunk_count-count.ensures) c.index_in_emission_order.ensures.value) (chunk_at bytes c.index_in_emission_order.result begins) in
    parts_step ByteSeq (reversed_if_in_lookbehind c.args.mode.behind (chunks bytes)) at (take 16 (drop (c.index_in_emission_order.result * 16) bytes)) (emitter_state c.loop-at.self) (emitter_state c.emit_chunk.new.self) _ next c.in_ok-emit_chunk.ensures c.loop-at.invariant

pub returns : goal.returns
returns c =
    let bytes = c.args.bytes.now in
    let all = reversed_if_in_lookbehind c.args.mode.behind (chunks bytes) in
    parts_end ByteSeq all c.loop-at.at (emitter_state c.loop-at.self) _ (omega (arith, c.chunk_count-count.ensures, length-reversed_if_in_lookbehind c.args.mode.behind (chunks bytes))) c.loop-at.invariant
    ∙ sym (with_code-byte_sequence c.args.mode.unicode c.args.mode.behind bytes (emitter_state c.args.self.now))
