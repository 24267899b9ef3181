use Rattle.std.proofs.Common.{◌≤◌}
use Rattle.regress_search.proofs.leaping.last_boundary_before.Given as goal

abbrev pub invariant-back : goal.invariant-back
invariant-back g l = (l.from ≤ l.at) × (l.at ≤ l.limit)

abbrev pub decreases-back : goal.decreases-back
decreases-back g l = l.at
