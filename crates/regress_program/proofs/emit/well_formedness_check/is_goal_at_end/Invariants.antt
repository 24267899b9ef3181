use Rattle.std.proofs.Common.{◌≡◌}
use Rattle.regex_meaning.specs.WellFormedTrees.{ends_in_goal}
use Rattle.regex_pattern_front.specs.AstToSpecTree.{spec_node_of}
use Rattle.regress_program.proofs.InnerNodeCountLemmas.{inner_node_count}
use Rattle.regress_program.proofs.emit.well_formedness_check.is_goal_at_end.Given as goal

abbrev pub invariant-loop-rest : goal.invariant-loop-rest
invariant-loop-rest l = ends_in_goal (spec_node_of l.rest) ≡ ends_in_goal (spec_node_of l.node)

abbrev pub decreases-loop-rest : goal.decreases-loop-rest
decreases-loop-rest l = inner_node_count (spec_node_of l.rest)
