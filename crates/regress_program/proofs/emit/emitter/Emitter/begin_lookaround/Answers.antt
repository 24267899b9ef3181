use Rattle.std.proofs.Common.{arith}
use Rattle.regex_meaning.specs.Tree.{lookaround}
use Rattle.regex_pattern_front.specs.AstToSpecTree.{spec_node_of}
use Rattle.regress_program.specs.InsnsAsSpec.{insn_as_spec_insn}
use Rattle.regress_program.specs.InnerNodeCountMeasure.{inner_node_count}
use Rattle.regress_program.specs.EmitterStateAndAppendedCode.{lookaround_as_spec, node_with_char_loops_if_enabled, emitter_state, with_code}
use Rattle.regress_program.specs.PendingEmission.{node_measure, pending_measure, is_emittable, with_pending}
use Rattle.regress_program.proofs.PendingEmissionLemmas.{begun-two, grows-put, place-put, put-lookaround}
use Rattle.regress_program.proofs.emit.emitter.Emitter.begin_lookaround.Goals as goal

pub returns : goal.returns
unfolding with_pending is_emittable pending_measure inner_node_count
returns c =
    let u = c.args.mode.unicode in
    let d = c.args.mode.behind in
    let l = lookaround_as_spec c.args.look in
    let n = node_with_char_loops_if_enabled c.args.mode.narrow (spec_node_of c.args.contents.now) in
    let x = insn_as_spec_insn c.insn.result in
    let head = c.next-head.result in
    let s = emitter_state c.args.self.now in
    let t = emitter_state c.append_insn.new.self in
    begun-two (with_code u d (lookaround l n)) (node_measure (lookaround l n)) c.args.rest.now.items c.push.new.self.items c.push-2.new.self.items _ _ s t
    c.in_ok-push.ensures.items c.in_ok-push-2.ensures.items
    (put-lookaround u d l n head x s t c.in_ok-append_insn.ensures c.next-head.ensures) (grows-put x s t c.in_ok-append_insn.ensures)
    (place-put x head s t c.in_ok-append_insn.ensures c.next-head.ensures) c.requires.sets (omega arith)
