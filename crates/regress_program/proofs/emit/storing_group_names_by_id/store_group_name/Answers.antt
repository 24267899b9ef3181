use Rattle.std.proofs.Common.{◌≡◌, ◌+◌, ◌∷◌, ◌∙◌, ap, arith, map, set, string_bytes}
use Rattle.regex_meaning.specs.MatchGroupsByNumberAndName.{capturing_group_ids_and_names}
use Rattle.regex_pattern_front.specs.AstToSpecTree.{spec_node_of, group_name_bytes}
use Rattle.regress_program.specs.StoringGroupNamesById.{with_names_stored_by_id, naming_measure_of_node, naming_measure_of_part, names_in_pending_part}
use Rattle.regress_program.proofs.StoringGroupNamesLemmas.{files-one}
use Rattle.regress_program.proofs.emit.storing_group_names_by_id.store_group_name.Goals as goal

pub returns-clause-with_names_stored_by_id : goal.returns-clause-with_names_stored_by_id
unfolding names_in_pending_part naming_measure_of_part
returns-clause-with_names_stored_by_id c =
    let inner = spec_node_of c.args.contents.now in
    let name = group_name_bytes c.args.name.now in
    let old = map string_bytes c.args.names.now in
    let new = map string_bytes c.put.new.names in
    let put : new ≡ set old c.args.id name = c.put.ensures.with_names_stored_by_id ∙ ap (set old c.args.id) c.in_ok-copy.ensures in
    files-one ((c.args.id, name) ∷ capturing_group_ids_and_names inner) (naming_measure_of_node inner + 1) old new c.args.rest.now.items c.push_pending.new.rest.items _
    c.in_ok-push_pending.ensures (ap (with_names_stored_by_id (capturing_group_ids_and_names inner)) put) (omega arith)
