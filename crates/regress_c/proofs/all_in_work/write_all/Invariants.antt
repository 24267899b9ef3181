use Rattle.std.proofs.Common.{◌-◌, ◌≤◌, length}
use Rattle.regress_search.specs.CostsOfCalls.{without_costs}
use Rattle.regress_c.proofs.AllInWorkLemmas.{Writing}
use Rattle.regress_c.proofs.all_in_work.write_all.Given as goal

-- what was written so far
abbrev pub invariant-written : goal.invariant-written
invariant-written g l = Writing l.fn.ranges (without_costs l.fn.matches) l.fn.spans (without_costs l.matches) l.spans l.count l.at × (l.at ≤ length l.spans)

abbrev pub decreases-written : goal.decreases-written
decreases-written g l = length l.spans - l.at
