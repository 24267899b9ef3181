use Rattle.std.proofs.Common.{ap, ◌∙◌}
use Rattle.regex_meaning.specs.MatchGroupsByNumberAndName.{group_names_by_id}
use Rattle.regex_pattern_front.specs.AstToSpecTree.{tree_of}
use Rattle.regex_pattern_front.specs.declared.ir.Regex.{Regex as Parsed}
use Rattle.regress_program.specs.CompilationOfTreesAsFunction.{compiled}
use Rattle.regress_match.proofs.api.regex.Regex.group_names.Goals as goal

pub returns : goal.returns
unfolding compiled
returns c = c.group_names.ensures ∙ ap (λ (p : Parsed). group_names_by_id (tree_of p).root) (c.deref.ensures ∙ c.byte_program.ensures)
