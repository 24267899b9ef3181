use Rattle.std.proofs.Common.{◌≡◌, ℕ, ◌+◌, ◌*◌, ◌<◌, ◌≤◌, max, get_or}
use Rattle.regex_meaning.specs.Tree.{alt}
use Rattle.regex_pattern_front.specs.AstToSpecTree.{spec_node_of}
use Rattle.regex_pattern_front.specs.OptimizedTrees.{optimized, alternatives_with_links_unreversed}
use Rattle.regex_pattern_front.specs.declared.ir.Node.{size-Node}
use Rattle.regex_pattern_front.proofs.optimizer.+optimize.Given as goal

abbrev pub decreases-optimize_node : goal.decreases-optimize_node
decreases-optimize_node l = 2 * goal.size-optimize_node l

abbrev pub decreases-optimize_all : goal.decreases-optimize_all
decreases-optimize_all l = 2 * goal.size-optimize_all l + 1

abbrev pub decreases-optimize_nested_alternatives : goal.decreases-optimize_nested_alternatives
decreases-optimize_nested_alternatives l = 2 * max (size-Node l.first.now) (size-Node l.rest.now) + 1

abbrev pub invariant-optimize_all-loop-i : goal.invariant-optimize_all-loop-i
invariant-optimize_all-loop-i l =
    goal.unvisited-optimize_all-loop-i l
    × ((k : ℕ) (d : _) → k < l.i → spec_node_of (get_or l.nodes.items k d) ≡ optimized (spec_node_of (get_or l.initial.nodes.items k d)))

abbrev pub invariant-optimize_nested_alternatives-loop-rest : goal.invariant-optimize_nested_alternatives-loop-rest
invariant-optimize_nested_alternatives-loop-rest l = record {
  deep : size-Node l.rest ≤ size-Node l.fn.rest;
  turned : alternatives_with_links_unreversed l.turned (spec_node_of l.first) (optimized (spec_node_of l.rest)) ≡ optimized (alt (spec_node_of l.fn.first) (spec_node_of l.fn.rest));
}

abbrev pub decreases-optimize_nested_alternatives-loop-rest : goal.decreases-optimize_nested_alternatives-loop-rest
decreases-optimize_nested_alternatives-loop-rest l = size-Node l.rest
