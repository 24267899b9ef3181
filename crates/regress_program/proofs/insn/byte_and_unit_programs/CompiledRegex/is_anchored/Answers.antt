use Rattle.std.proofs.Common.{ap, ◌∙◌}
use Rattle.regex_pattern_front.specs.AstToSpecTree.{tree_of}
use Rattle.regress_program.specs.StartPredicates.{is_anchored_predicate, is_anchored_tree}
use Rattle.regress_program.proofs.StartPredicatesLemmas.{anchored-compiled}
use Rattle.regress_program.proofs.insn.byte_and_unit_programs.CompiledRegex.is_anchored.Goals as goal

pub returns : goal.returns
returns c =
    c.is_anchored.ensures ∙ ap is_anchored_predicate c.self.invariant.starts.predicate
    ∙ anchored-compiled (tree_of c.self.inside.program) ∙ ap (λ re. is_anchored_tree (tree_of re)) c.self.view_is
