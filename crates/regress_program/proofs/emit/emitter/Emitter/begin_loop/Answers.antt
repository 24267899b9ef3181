use Rattle.std.proofs.Common.{refl, arith}
use Rattle.regex_meaning.specs.Tree.{loop}
use Rattle.regex_pattern_front.specs.AstToSpecTree.{spec_node_of, spec_quantifier_of}
use Rattle.regress_program.specs.declared.instructions.LoopFields.{LoopFields}
use Rattle.regress_program.specs.InnerNodeCountMeasure.{inner_node_count}
use Rattle.regress_program.specs.EmitterStateAndAppendedCode.{node_with_char_loops_if_enabled, emitter_state, with_code}
use Rattle.regress_program.specs.PendingEmission.{node_measure, pending_measure, is_emittable, with_pending}
use Rattle.regress_program.proofs.AppendedCodeLemmas.{loop_fits}
use Rattle.regress_program.proofs.PendingEmissionLemmas.{begun-two, grows-loop, place-loop, put-loop}
use Rattle.regress_program.proofs.emit.emitter.Emitter.begin_loop.Goals as goal

pub increment_loop_count-requires : goal.increment_loop_count-requires
increment_loop_count-requires c =
    loop_fits (spec_quantifier_of c.args.quant.now) c.args.groups.now.start c.args.groups.now.end (node_with_char_loops_if_enabled c.args.mode.narrow (spec_node_of c.args.loopee.now))
    (emitter_state c.args.self.now) (emitter_state c.append_insn.new.self) _ c.requires.room c.in_ok-append_insn.ensures

pub returns : goal.returns
unfolding with_pending is_emittable pending_measure inner_node_count
returns c =
    let m = c.args.mode in
    let q = spec_quantifier_of c.args.quant.now in
    let g = c.args.groups.now.start in
    let e = c.args.groups.now.end in
    let n = node_with_char_loops_if_enabled m.narrow (spec_node_of c.args.loopee.now) in
    let begin = c.next-begin.result in
    let f : LoopFields = record { loop_id = c.args.self.now.loops; min_iters = c.args.quant.now.min; max_iters = c.unwrap_or.result; greedy = c.args.quant.now.greedy; exit = 0 } in
    let s = emitter_state c.args.self.now in
    let s1 = emitter_state c.append_insn.new.self in
    let s2 = emitter_state c.increment_loop_count.new.self in
    let t = emitter_state c.emit_group_resets.new.self in
    begun-two (with_code m.unicode m.behind (loop q g e n)) (node_measure (loop q g e n)) c.args.rest.now.items c.push.new.self.items c.push-2.new.self.items _ _ s t
    c.in_ok-push.ensures.items c.in_ok-push-2.ensures.items
    (put-loop m.unicode m.behind q g e n f begin _ s s1 s2 t c.in_ok-append_insn.ensures c.increment_loop_count.ensures c.in_ok-emit_group_resets.ensures c.next-begin.ensures refl refl c.unwrap_or.ensures refl)
    (grows-loop g e _ s s1 s2 t c.in_ok-append_insn.ensures c.increment_loop_count.ensures c.in_ok-emit_group_resets.ensures)
    (place-loop g e _ begin s s1 s2 t c.in_ok-append_insn.ensures c.increment_loop_count.ensures c.in_ok-emit_group_resets.ensures c.next-begin.ensures)
    c.requires.sets (omega arith)
