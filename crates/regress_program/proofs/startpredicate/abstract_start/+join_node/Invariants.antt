use Rattle.std.proofs.Common.{◌≡◌, ◌+◌, ◌*◌, ◌≤◌, false, drop}
use Rattle.regex_meaning.specs.StartPredicate.{abstract_start_predicate}
use Rattle.regex_pattern_front.specs.AstToSpecTree.{spec_node_of}
use Rattle.regress_program.specs.JoinedStarts.{abstract_start_as_spec, join_starts_of_alternatives}
use Rattle.regress_program.specs.LeafNodesAndOptimizableLoops.{spec_cat_of_children}
use Rattle.regress_program.specs.StartPredicates.{making_node_start_predicate_may_allocate}
use Rattle.regress_program.proofs.InnerNodeCountLemmas.{inner_node_count}
use Rattle.regress_program.proofs.startpredicate.abstract_start.+join_node.Given as goal

abbrev pub decreases-join_node : goal.decreases-join_node
decreases-join_node l = 3 * inner_node_count (spec_node_of l.node.now) + 1

abbrev pub decreases-join_node_list : goal.decreases-join_node_list
decreases-join_node_list l = 3 * inner_node_count (spec_cat_of_children l.nodes.now)

abbrev pub decreases-join_arms : goal.decreases-join_arms
decreases-join_arms l = 3 * (inner_node_count (spec_node_of l.first.now) + inner_node_count (spec_node_of l.others.now) + 1)

abbrev pub decreases-join_one_arm : goal.decreases-join_one_arm
decreases-join_one_arm l = 3 * inner_node_count (spec_node_of l.arm.now) + 2

abbrev pub invariant-join_node_list-loop-node : goal.invariant-join_node_list-loop-node
invariant-join_node_list-loop-node l = record {
  shared : abstract_start_as_spec l.shared ≡ abstract_start_as_spec l.initial.shared;
  abstract_start_predicate : abstract_start_predicate (spec_cat_of_children (drop l.node-index l.nodes)) ≡ abstract_start_predicate (spec_cat_of_children l.nodes);
  no_memory : making_node_start_predicate_may_allocate (spec_cat_of_children l.nodes) ≡ false → making_node_start_predicate_may_allocate (spec_cat_of_children (drop l.node-index l.nodes)) ≡ false;
}

abbrev pub invariant-join_arms-loop-rest : goal.invariant-join_arms-loop-rest
invariant-join_arms-loop-rest l = record {
  within : inner_node_count (spec_node_of l.rest) ≤ inner_node_count (spec_node_of l.others);
  shared : join_starts_of_alternatives (abstract_start_as_spec l.shared) (abstract_start_predicate (spec_node_of l.rest)) ≡ join_starts_of_alternatives (join_starts_of_alternatives (abstract_start_as_spec l.fn.shared) (abstract_start_predicate (spec_node_of l.first))) (abstract_start_predicate (spec_node_of l.others));
  no_memory : making_node_start_predicate_may_allocate (spec_node_of l.others) ≡ false → making_node_start_predicate_may_allocate (spec_node_of l.rest) ≡ false;
}

abbrev pub decreases-join_arms-loop-rest : goal.decreases-join_arms-loop-rest
decreases-join_arms-loop-rest l = inner_node_count (spec_node_of l.rest)
