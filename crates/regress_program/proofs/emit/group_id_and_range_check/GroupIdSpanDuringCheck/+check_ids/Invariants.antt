use Rattle.std.proofs.Common.{◌+◌, ◌*◌, ◌≤◌, drop}
use Rattle.regex_meaning.specs.Tree.{group_ids, every_node_passes}
use Rattle.regex_meaning.specs.WellFormedTrees.{has_exact_group_range}
use Rattle.regex_pattern_front.specs.AstToSpecTree.{spec_node_of}
use Rattle.regress_program.specs.LeafNodesAndOptimizableLoops.{spec_cat_of_children}
use Rattle.regress_program.specs.GroupIdCheck.{is_group_id_seen}
use Rattle.regress_program.specs.GroupIdSpans.{group_id_span_as_numbers}
use Rattle.regress_program.proofs.GroupIdCheckLemmas.{IsLeft}
use Rattle.regress_program.proofs.InnerNodeCountLemmas.{inner_node_count}
use Rattle.regress_program.proofs.emit.group_id_and_range_check.GroupIdSpanDuringCheck.+check_ids.Given as goal

abbrev pub decreases-check_ids : goal.decreases-check_ids
decreases-check_ids l = 4 * inner_node_count (spec_node_of l.root.now) + 2

abbrev pub decreases-check_ids_along : goal.decreases-check_ids_along
decreases-check_ids_along l = 4 * inner_node_count (spec_node_of l.root.now) + 1

abbrev pub decreases-check_arm_ids : goal.decreases-check_arm_ids
decreases-check_arm_ids l = 4 * inner_node_count (spec_node_of l.arm.now) + 4

abbrev pub decreases-check_part_ids : goal.decreases-check_part_ids
decreases-check_part_ids l = 4 * inner_node_count (spec_node_of l.node.now) + 3

abbrev pub decreases-check_list_ids : goal.decreases-check_list_ids
decreases-check_list_ids l = 4 * inner_node_count (spec_cat_of_children l.nodes.now)

abbrev pub decreases-check_enclosed_ids : goal.decreases-check_enclosed_ids
decreases-check_enclosed_ids l = 4 * inner_node_count (spec_node_of l.contents.now) + 2

abbrev pub invariant-check_ids_along-loop-rest : goal.invariant-check_ids_along-loop-rest
invariant-check_ids_along-loop-rest l = record {
  within : inner_node_count (spec_node_of l.rest) ≤ inner_node_count (spec_node_of l.root);
  left : IsLeft (is_group_id_seen l.fn.bits) (group_id_span_as_numbers l.fn.self.inside) (group_ids (spec_node_of l.root)) (every_node_passes has_exact_group_range (spec_node_of l.root))
      (is_group_id_seen l.bits) (group_id_span_as_numbers l.self.inside) (group_ids (spec_node_of l.rest)) (every_node_passes has_exact_group_range (spec_node_of l.rest));
}

abbrev pub decreases-check_ids_along-loop-rest : goal.decreases-check_ids_along-loop-rest
decreases-check_ids_along-loop-rest l = inner_node_count (spec_node_of l.rest)

abbrev pub invariant-check_list_ids-loop-node : goal.invariant-check_list_ids-loop-node
invariant-check_list_ids-loop-node l =
    IsLeft (is_group_id_seen l.fn.bits) (group_id_span_as_numbers l.fn.self.inside) (group_ids (spec_cat_of_children l.nodes)) (every_node_passes has_exact_group_range (spec_cat_of_children l.nodes))
    (is_group_id_seen l.bits) (group_id_span_as_numbers l.self.inside) (group_ids (spec_cat_of_children (drop l.node-index l.nodes))) (every_node_passes has_exact_group_range (spec_cat_of_children (drop l.node-index l.nodes)))
