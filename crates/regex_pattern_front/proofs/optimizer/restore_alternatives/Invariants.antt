use Rattle.std.proofs.Common.{◌≡◌}
use Rattle.regex_pattern_front.specs.AstToSpecTree.{spec_node_of}
use Rattle.regex_pattern_front.specs.OptimizedTrees.{alternatives_with_links_unreversed}
use Rattle.regex_pattern_front.proofs.optimizer.restore_alternatives.Given as goal

abbrev pub invariant-loop-turned : goal.invariant-loop-turned
invariant-loop-turned l = alternatives_with_links_unreversed l.turned (spec_node_of l.done) (spec_node_of l.rest) ≡ alternatives_with_links_unreversed l.initial.turned (spec_node_of l.initial.done) (spec_node_of l.initial.rest)

abbrev pub decreases-loop-turned : goal.decreases-loop-turned
decreases-loop-turned l = l.turned
