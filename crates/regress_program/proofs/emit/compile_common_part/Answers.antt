use Rattle.std.proofs.Common.{◌∙◌, refl, subst}
use Rattle.std.specs.Arc.{arc_value}
use Rattle.regex_meaning.proofs.WellFormedTreesLemmas.{clauses}
use Rattle.regex_pattern_front.specs.AstToSpecTree.{spec_node_of, tree_of}
use Rattle.regress_program.specs.CompilationOfTreesAsFunction.{compiled}
use Rattle.regress_program.specs.ProgramFieldsMatchTree.{IsCodeOfTree}
use Rattle.regress_program.proofs.CharLoopNodeLemmas.{shaped-plain}
use Rattle.regress_program.proofs.emit.compile_common_part.Goals as goal

pub names_by_id-requires-clause-once : goal.names_by_id-requires-clause-once
names_by_id-requires-clause-once c = (clauses (spec_node_of c.args.re.now.node) c.in_ok-groups.ensures.fits.well_formed).ids

pub invariant_of-result : goal.invariant_of-result
unfolding compiled
invariant_of-result c =
    let re = c.args.re.now in
    let root = spec_node_of re.node in
    let fits = c.in_ok-groups.ensures.fits in
    let of = c.of.ensures in
    record {
      code = rw of (subst (λ n. IsCodeOfTree (record { root = n; flags = (tree_of re).flags }) (arc_value c.in_ok-code.code)) (shaped-plain root) c.in_ok-code.ensures);
      groups = rw of c.in_ok-groups.ensures.groups;
      flags = rw of refl;
      group_names = rw of (c.in_ok-group_names.ensures ∙ c.in_ok-names_by_id.ensures);
      well_formed = rw of fits.well_formed;
    }
