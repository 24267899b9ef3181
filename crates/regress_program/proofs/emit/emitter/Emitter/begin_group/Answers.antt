use Rattle.std.proofs.Common.{[], refl, arith}
use Rattle.regex_meaning.specs.Tree.{capture_group}
use Rattle.regex_meaning.specs.CompilationRelation.{BeginCaptureGroup, EndCaptureGroup}
use Rattle.regex_pattern_front.specs.AstToSpecTree.{spec_node_of}
use Rattle.regress_program.specs.InnerNodeCountMeasure.{inner_node_count}
use Rattle.regress_program.specs.EmitterStateAndAppendedCode.{node_with_char_loops_if_enabled, emitter_state, with_code, with_insn_appended}
use Rattle.regress_program.specs.PendingEmission.{node_measure, pending_measure, is_emittable, with_pending}
use Rattle.regress_program.proofs.AppendedCodeLemmas.{with_code-capture_group}
use Rattle.regress_program.proofs.PendingEmissionLemmas.{begun-two, grows-put}
use Rattle.regress_program.proofs.emit.emitter.Emitter.begin_group.Goals as goal

pub returns : goal.returns
unfolding with_pending is_emittable pending_measure inner_node_count
returns c =
    let m = c.args.mode in
    let n = node_with_char_loops_if_enabled m.narrow (spec_node_of c.args.contents.now) in
    let s = emitter_state c.args.self.now in
    let t = emitter_state c.append_insn.new.self in
    let inside = with_code m.unicode m.behind n t in
    begun-two (with_code m.unicode m.behind (capture_group c.args.id [] n)) (node_measure (capture_group c.args.id [] n)) c.args.rest.now.items c.push.new.self.items c.push-2.new.self.items _ _ s t
    c.in_ok-push.ensures.items c.in_ok-push-2.ensures.items
    (with_code-capture_group m.unicode m.behind c.args.id [] n s t inside (with_insn_appended (EndCaptureGroup c.args.id) inside) c.in_ok-append_insn.ensures refl refl)
    (grows-put (BeginCaptureGroup c.args.id) s t c.in_ok-append_insn.ensures) refl c.requires.sets (omega arith)
