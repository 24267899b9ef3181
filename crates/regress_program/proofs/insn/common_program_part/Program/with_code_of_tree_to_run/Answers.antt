use Rattle.std.proofs.Common.{◌≡◌, ◌∙◌, ap, sym}
use Rattle.regex_pattern_front.specs.AstToSpecTree.{tree_of}
use Rattle.regress_program.specs.OptimizedTreeUnlessNoOpt.{optimized_tree_unless_no_opt}
use Rattle.regress_program.proofs.TreeToRunLemmas.{run-groups, run-names, run-flags, run-well_formed}
use Rattle.regress_program.proofs.insn.common_program_part.Program.with_code_of_tree_to_run.Goals as goal

pub invariant_of-result : goal.invariant_of-result
invariant_of-result c =
    let held = c.self.invariant in
    let of = c.of.ensures in
    let own = tree_of c.self.inside.tree.value in
    let run = tree_of c.args.tree.now in
    let is : run ≡ optimized_tree_unless_no_opt own = c.requires.run ∙ ap (λ r. optimized_tree_unless_no_opt (tree_of r)) (sym c.self.view_is) in
    record {
      code = rw of c.requires.code;
      groups = rw of (held.groups ∙ run-groups own run is);
      flags = rw of (held.flags ∙ run-flags own run is);
      group_names = rw of (c.in_ok-clone.ensures ∙ held.group_names ∙ run-names own run is);
      well_formed = rw of (run-well_formed own run is held.well_formed);
    }
