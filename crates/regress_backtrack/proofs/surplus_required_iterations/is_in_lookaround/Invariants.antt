use Rattle.std.proofs.Common.{◌≤◌}
use Rattle.regress_backtrack.proofs.surplus_required_iterations.is_in_lookaround.Given as goal

abbrev pub invariant-loop-l : goal.invariant-loop-l
invariant-loop-l g l = l.from ≤ l.l
