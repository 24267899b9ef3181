use Rattle.std.proofs.Common.{◌≡◌, ◌++◌, ◌∷◌, [], map, vec_len}
use Rattle.regex_parser.specs.PartialDisjunctionModel.{nest_all_alternatives}
use Rattle.regex_pattern_front.specs.AstToSpecTree.{spec_node_of}
use Rattle.regex_pattern_front.specs.SubtreeListInvariants.{KeepsSubtreeInvariant}
use Rattle.regex_parser.proofs.open_groups.nest_alternatives.Given as goal

abbrev pub invariant-loop-left : goal.invariant-loop-left
invariant-loop-left l = record {
  parts : KeepsSubtreeInvariant l.fn.alternatives.items (l.alternatives.items ++ l.joined ∷ []);
  node : nest_all_alternatives (map spec_node_of l.alternatives.items ++ spec_node_of l.joined ∷ []) ≡ nest_all_alternatives (map spec_node_of l.fn.alternatives.items);
}

abbrev pub decreases-loop-left : goal.decreases-loop-left
decreases-loop-left l = vec_len l.alternatives
