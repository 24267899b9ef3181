use Rattle.std.proofs.Common.{◌≡◌, ◌+◌, ◌*◌, ◌≤◌, drop}
use Rattle.regex_pattern_front.specs.AstToSpecTree.{spec_node_of}
use Rattle.regress_program.specs.LeafNodesAndOptimizableLoops.{spec_cat_of_children}
use Rattle.regress_program.proofs.InnerNodeCountLemmas.{inner_node_count}
use Rattle.use_grep.specs.Local.{is_local}
use Rattle.use_grep.proofs.local.+is_local_node.Given as goal

abbrev pub decreases-is_local_node : goal.decreases-is_local_node
decreases-is_local_node l = 2 * inner_node_count (spec_node_of l.node.now) + 1

abbrev pub decreases-are_local : goal.decreases-are_local
decreases-are_local l = 2 * inner_node_count (spec_cat_of_children l.nodes.now)

abbrev pub invariant-is_local_node-loop-rest : goal.invariant-is_local_node-loop-rest
invariant-is_local_node-loop-rest l = record {
  within : inner_node_count (spec_node_of l.rest) ≤ inner_node_count (spec_node_of l.node);
  same : is_local (spec_node_of l.rest) ≡ is_local (spec_node_of l.node);
}

abbrev pub decreases-is_local_node-loop-rest : goal.decreases-is_local_node-loop-rest
decreases-is_local_node-loop-rest l = inner_node_count (spec_node_of l.rest)

abbrev pub invariant-are_local-loop-node : goal.invariant-are_local-loop-node
invariant-are_local-loop-node l = is_local (spec_cat_of_children (drop l.node-index l.nodes)) ≡ is_local (spec_cat_of_children l.nodes)
