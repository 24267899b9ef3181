use Rattle.std.proofs.Common.{◌≡◌, ◌≤◌, ◌<◌, true}
use Rattle.regress_search.specs.Leaping.{may_read_unit_before_goal}
use Rattle.regress_search.proofs.leaping.first_offset_readable_up_to_goal.Given as goal

abbrev pub invariant-back : goal.invariant-back
invariant-back g l = (l.from ≤ l.at) × (l.at ≤ l.goal) × (l.at < l.goal → may_read_unit_before_goal (g.W.SearchContext.searching l.context) l.leap l.at ≡ true)

abbrev pub decreases-back : goal.decreases-back
decreases-back g l = l.at
