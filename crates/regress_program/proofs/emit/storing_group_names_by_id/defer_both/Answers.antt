use Rattle.std.proofs.Common.{◌+◌, ◌++◌, refl, arith}
use Rattle.regex_meaning.specs.MatchGroupsByNumberAndName.{capturing_group_ids_and_names}
use Rattle.regex_pattern_front.specs.AstToSpecTree.{spec_node_of}
use Rattle.regress_program.specs.StoringGroupNamesById.{naming_measure_of_node, naming_measure_of_part, names_in_pending_part}
use Rattle.regress_program.proofs.StoringGroupNamesLemmas.{files-two}
use Rattle.regress_program.proofs.emit.storing_group_names_by_id.defer_both.Goals as goal

pub returns : goal.returns
unfolding names_in_pending_part naming_measure_of_part
returns c names =
    let first = spec_node_of c.args.first.now in
    let others = spec_node_of c.args.others.now in
    files-two (capturing_group_ids_and_names first ++ capturing_group_ids_and_names others) (naming_measure_of_node first + naming_measure_of_node others + 1) names c.args.rest.now.items c.push_pending.new.rest.items c.push_pending-2.new.rest.items _ _
    c.in_ok-push_pending.ensures c.in_ok-push_pending-2.ensures refl (omega arith)
