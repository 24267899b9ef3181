use Rattle.std.proofs.Common.{◌≡◌, ◌+◌, ◌*◌, ◌≤◌, drop}
use Rattle.regex_pattern_front.specs.AstToSpecTree.{spec_node_of}
use Rattle.regress_program.specs.LeafNodesAndOptimizableLoops.{spec_cat_of_children}
use Rattle.regress_program.specs.TryFoldOverTreeNodes.{try_fold_tree_nodes}
use Rattle.regress_program.proofs.InnerNodeCountLemmas.{inner_node_count}
use Rattle.regress_program.proofs.emit.tree_walk_with_visitor.+walk.Given as goal

abbrev pub decreases-walk : goal.decreases-walk
decreases-walk g l = 3 * inner_node_count (spec_node_of l.root.now) + 1

abbrev pub decreases-walk_arm : goal.decreases-walk_arm
decreases-walk_arm g l = 3 * inner_node_count (spec_node_of l.arm.now) + 2

abbrev pub decreases-walk_row : goal.decreases-walk_row
decreases-walk_row g l = 3 * inner_node_count (spec_cat_of_children l.nodes.now)

abbrev pub invariant-walk-loop-rest : goal.invariant-walk-loop-rest
invariant-walk-loop-rest g l = record {
  within : inner_node_count (spec_node_of l.rest) ≤ inner_node_count (spec_node_of l.root);
  walked : try_fold_tree_nodes g.V.PreorderNodeVisitor.step (spec_node_of l.rest) l.visitor ≡ try_fold_tree_nodes g.V.PreorderNodeVisitor.step (spec_node_of l.root) l.initial.visitor;
}

abbrev pub decreases-walk-loop-rest : goal.decreases-walk-loop-rest
decreases-walk-loop-rest g l = inner_node_count (spec_node_of l.rest)

abbrev pub invariant-walk_row-loop-node : goal.invariant-walk_row-loop-node
invariant-walk_row-loop-node g l = try_fold_tree_nodes g.V.PreorderNodeVisitor.step (spec_cat_of_children (drop l.node-index l.nodes)) l.visitor ≡ try_fold_tree_nodes g.V.PreorderNodeVisitor.step (spec_cat_of_children l.nodes) l.initial.visitor
