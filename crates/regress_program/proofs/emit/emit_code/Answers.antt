use Rattle.std.proofs.Common.{◌≡◌, ◌+◌, ◌∙◌, ap, sym, subst, arith, false, length}
use Rattle.regex_meaning.proofs.WellFormedTreesLemmas.{clauses}
use Rattle.regex_pattern_front.specs.AstToSpecTree.{spec_node_of, tree_of}
use Rattle.regress_program.specs.CompilationOfTreesAsFunction.{compiled, loop_count}
use Rattle.regress_program.specs.EmitterStateAndAppendedCode.{node_with_char_loops_if_enabled, tree_with_char_loops, emitter_state, empty_state, with_code}
use Rattle.regress_program.specs.ProgramFieldsMatchTree.{IsCodeOfTree}
use Rattle.regress_program.proofs.CharLoopNodeLemmas.{size-shaped, loops-shaped}
use Rattle.regress_program.proofs.emit.emit_code.Goals as goal

pub emit-requires-clause-sets : goal.emit-requires-clause-sets
emit-requires-clause-sets c = (clauses (spec_node_of c.args.re.now.node) c.requires.well_formed).sets

pub emit-requires-clause-room : goal.emit-requires-clause-room
emit-requires-clause-room c =
    let root = spec_node_of c.args.re.now.node in
    record {
      insns = omega (arith, c.requires.insns, size-shaped c.args.narrow root, ap (λ s. length s.insns) c.in_ok-emitter.ensures);
      loops = omega (arith, c.requires.loops, loops-shaped c.args.narrow root, ap (λ s. s.loops) c.in_ok-emitter.ensures);
    }

pub returns : goal.returns
unfolding compiled
returns c =
    let re = c.args.re.now in
    let made : emitter_state c.emit.new.self ≡ with_code re.flags.unicode false (node_with_char_loops_if_enabled c.args.narrow (spec_node_of re.node)) empty_state =
    c.in_ok-emit.ensures ∙ ap (with_code re.flags.unicode false (node_with_char_loops_if_enabled c.args.narrow (spec_node_of re.node))) c.in_ok-emitter.ensures in
    let counted : c.into_emitted_code-code.result.loops ≡ 0 + loop_count (node_with_char_loops_if_enabled c.args.narrow (spec_node_of re.node)) = c.into_emitted_code-code.ensures.loops ∙ ap (λ s. s.loops) made in
    subst (IsCodeOfTree (tree_with_char_loops c.args.narrow (tree_of re))) (sym c.in_ok-new.ensures.ok) (record {
      insns = c.into_emitted_code-code.ensures.insns ∙ ap (λ s. s.insns) made;
      brackets = c.into_emitted_code-code.ensures.brackets ∙ ap (λ s. s.brackets) made;
      loops = omega (arith, counted);
    })
