use Rattle.std.proofs.Common.{◌∙◌, ap}
use Rattle.regex_meaning.specs.MatchGroupsByNumberAndName.{group_names_by_id}
use Rattle.regex_meaning.specs.Tree.{Tree}
use Rattle.regress_search.proofs.FirstMatchLemmas.{same-answer, names-compiled}
use Rattle.regex_pattern_front.specs.AstToSpecTree.{tree_of}
use Rattle.regress_search.proofs.search_loop.successful_match.Goals as goal

pub returns : goal.returns
returns g c =
    c.from_parts_with_shared_names.ensures
    ∙ same-answer _ _ _ _ _ _ _ _ c.pos_to_offset.ensures c.pos_to_offset-2.ensures
    c.in_ok-captures.ensures
    (c.in_ok-names.ensures ∙ c.shared_names.ensures ∙ names-compiled (tree_of c.program.result.now) ∙ ap (λ (t : Tree). group_names_by_id t.root) c.program.ensures)
