use Rattle.std.proofs.Common.{refl, ap, sym, ◌∙◌}
use Rattle.regex_pattern_front.specs.AstToSpecTree.{tree_of}
use Rattle.regress_program.specs.StartPredicates.{is_anchored_tree}
use Rattle.regress_search.proofs.SearchableProgramLemmas.{without-bytes}
use Rattle.regress_search.proofs.program_and_input.ProgramAndInput.pair_with_units.Goals as goal

pub invariant_of-result : goal.invariant_of-result
invariant_of-result g c = record {
  unicode = c.requires ∙ ap (λ re. (tree_of re).flags.unicode) (sym c.common_program-program.ensures.tree);
  well_formed = c.insns-well_formed.ensures.well_formed;
  bytes = without-bytes (tree_of c.args.re.now) (tree_of c.common_program-program.result.now) (ap tree_of c.common_program-program.ensures.tree) c.common_program-program.ensures.no_bytes;
  anchors = c.is_anchored.ensures ∙ ap (λ re. is_anchored_tree (tree_of re)) (sym c.common_program-program.ensures.tree);
}
