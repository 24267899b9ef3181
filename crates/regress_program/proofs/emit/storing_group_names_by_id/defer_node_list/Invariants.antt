use Rattle.std.proofs.Common.{◌≡◌, ◌≤◌, length}
use Rattle.regex_meaning.specs.MatchGroupsByNumberAndName.{capturing_group_ids_and_names}
use Rattle.regress_program.specs.LeafNodesAndOptimizableLoops.{spec_cat_of_children}
use Rattle.regress_program.specs.StoringGroupNamesById.{naming_measure_of_nodes}
use Rattle.regress_program.proofs.emit.storing_group_names_by_id.defer_node_list.Given as goal

abbrev pub invariant-loop-first : goal.invariant-loop-first
invariant-loop-first l = record {
  rest : l.rest.items ≡ l.fn.rest.items;
  named : capturing_group_ids_and_names (spec_cat_of_children l.left) ≡ capturing_group_ids_and_names (spec_cat_of_children l.fn.nodes);
  light : naming_measure_of_nodes l.left ≤ naming_measure_of_nodes l.fn.nodes;
}

abbrev pub decreases-loop-first : goal.decreases-loop-first
decreases-loop-first l = length l.left
