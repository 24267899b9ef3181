use Rattle.std.proofs.Common.{◌+◌, arith}
use Rattle.regex_pattern_front.specs.AstToSpecTree.{spec_node_of}
use Rattle.regress_program.specs.EmitterStateAndAppendedCode.{node_with_char_loops_if_enabled, emitter_state}
use Rattle.regress_program.specs.PendingEmission.{node_measure, pending_measure, is_emittable, with_pending, with_alternatives_emitted}
use Rattle.regress_program.proofs.PendingEmissionLemmas.{arm-ended, begun-two, grows-arm, place-arm, put-others}
use Rattle.regress_program.proofs.emit.emitter.Emitter.begin_other_arms.Goals as goal

pub returns : goal.returns
unfolding with_pending is_emittable pending_measure
returns c =
    let u = c.args.mode.unicode in
    let d = c.args.mode.behind in
    let b = node_with_char_loops_if_enabled c.args.mode.narrow (spec_node_of c.args.others.now) in
    let branch = c.args.branch in
    let jump = c.next-jump.result in
    let s = emitter_state c.args.self.now in
    let t = emitter_state c.replace_insn_at.new.self in
    let ended = arm-ended branch c.next-secondary.result s (emitter_state c.append_insn.new.self) t c.in_ok-append_insn.ensures c.next-secondary.ensures c.replace_insn_at.ensures in
    begun-two (with_alternatives_emitted u d branch b) (node_measure b + 2) c.args.rest.now.items c.push.new.self.items c.push-2.new.self.items _ _ s t
    c.in_ok-push.ensures.items c.in_ok-push-2.ensures.items
    (put-others u d branch jump b s t ended c.next-jump.ensures) (grows-arm branch s t ended)
    (place-arm branch jump s t ended c.next-jump.ensures) c.requires.sets (omega arith)
