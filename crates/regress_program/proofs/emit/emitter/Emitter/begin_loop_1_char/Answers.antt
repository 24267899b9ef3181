use Rattle.std.proofs.Common.{◌≡◌, refl, arith}
use Rattle.regex_meaning.specs.Tree.{loop_1_char_body}
use Rattle.regex_meaning.specs.CompilationRelation.{Loop1CharBody}
use Rattle.regex_meaning.specs.Outcomes.{max_iterations}
use Rattle.regex_pattern_front.specs.AstToSpecTree.{spec_node_of, spec_quantifier_of}
use Rattle.regress_program.specs.InnerNodeCountMeasure.{inner_node_count}
use Rattle.regress_program.specs.EmitterStateAndAppendedCode.{node_with_char_loops_if_enabled, emitter_state, with_code, with_insn_appended}
use Rattle.regress_program.specs.PendingEmission.{node_measure, pending_measure, is_emittable, with_pending}
use Rattle.regress_program.proofs.AppendedCodeLemmas.{with_code-loop_1_char_body}
use Rattle.regress_program.proofs.PendingEmissionLemmas.{begun-one, grows-put}
use Rattle.regress_program.proofs.emit.emitter.Emitter.begin_loop_1_char.Goals as goal

pub returns : goal.returns
unfolding with_pending is_emittable pending_measure inner_node_count
returns c =
    let m = c.args.mode in
    let q = spec_quantifier_of c.args.quant.now in
    let n = node_with_char_loops_if_enabled m.narrow (spec_node_of c.args.loopee.now) in
    let s = emitter_state c.args.self.now in
    let t = emitter_state c.append_insn.new.self in
    let head : t ≡ with_insn_appended (Loop1CharBody q.min (max_iterations q) q.greedy) s = rw (← c.unwrap_or.ensures) c.in_ok-append_insn.ensures in
    begun-one (with_code m.unicode m.behind (loop_1_char_body q n)) (node_measure (loop_1_char_body q n)) c.args.rest.now.items c.push.new.self.items _ s t c.in_ok-push.ensures.items
    (with_code-loop_1_char_body m.unicode m.behind q n s t (with_code m.unicode m.behind n t) head refl) (grows-put (Loop1CharBody q.min (max_iterations q) q.greedy) s t head)
    c.requires.sets (omega arith)
