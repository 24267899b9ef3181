use Rattle.std.proofs.Common.{length, ap, ◌∙◌}
use Rattle.regex_meaning.specs.Tree.{group_ids}
use Rattle.regex_pattern_front.specs.AstToSpecTree.{tree_of}
use Rattle.regex_pattern_front.specs.declared.ir.Regex.{Regex as Parsed}
use Rattle.regress_program.specs.CompilationOfTreesAsFunction.{compiled}
use Rattle.regress_match.proofs.api.regex.Regex.unit_group_count.Goals as goal

pub returns-clause-count : goal.returns-clause-count
unfolding compiled
returns-clause-count c = c.groups.ensures ∙ ap (λ (p : Parsed). length (group_ids (tree_of p).root)) (c.common_program.ensures.tree ∙ c.unit_program.ensures)
