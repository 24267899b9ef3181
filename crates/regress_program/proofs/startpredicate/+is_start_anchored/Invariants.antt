use Rattle.std.proofs.Common.{◌≡◌, ◌≤◌}
use Rattle.regex_meaning.specs.StartPredicate.{is_anchored}
use Rattle.regex_pattern_front.specs.AstToSpecTree.{spec_node_of}
use Rattle.regress_program.proofs.InnerNodeCountLemmas.{inner_node_count}
use Rattle.regress_program.proofs.startpredicate.+is_start_anchored.Given as goal

abbrev pub decreases-is_start_anchored : goal.decreases-is_start_anchored
decreases-is_start_anchored l = inner_node_count (spec_node_of l.node.now)

abbrev pub invariant-loop-rest : goal.invariant-loop-rest
invariant-loop-rest l = record {
  same : is_anchored (spec_node_of l.rest) ≡ is_anchored (spec_node_of l.node);
  within : inner_node_count (spec_node_of l.rest) ≤ inner_node_count (spec_node_of l.node);
}

abbrev pub decreases-loop-rest : goal.decreases-loop-rest
decreases-loop-rest l = inner_node_count (spec_node_of l.rest)
