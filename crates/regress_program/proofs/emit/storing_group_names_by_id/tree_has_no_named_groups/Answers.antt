use Rattle.std.proofs.Common.{◌∙◌, ◌++◌, sym, ℕ, List}
use Rattle.std.specs.Prelude.{◌&&◌, ◌==◌, length}
use Rattle.std.specs.List.{list_all}
use Rattle.std.proofs.lemmas.List.Folds.{list_all-append}
use Rattle.regex_meaning.specs.MatchGroupsByNumberAndName.{id_and_name_if_capture_group}
use Rattle.regex_pattern_front.specs.AstToSpecTree.{spec_node_of}
use Rattle.regress_program.specs.StoringGroupNamesById.{is_nameless}
use Rattle.regress_program.proofs.TreeWalkLemmas.{every-passes, gathered-through}
use Rattle.regress_program.proofs.emit.storing_group_names_by_id.tree_has_no_named_groups.Goals as goal

pub returns : goal.returns
returns c =
    let root = spec_node_of c.args.node.now in
    let test = λ (p : ℕ × List ℕ). length p.1 == 0 in
    every-passes (λ it n. is_nameless n) root _ c.walk.result c.walk.ensures.goes_on ∙ sym (gathered-through (list_all test) ◌++◌ ◌&&◌ id_and_name_if_capture_group (list_all-append test) root)
