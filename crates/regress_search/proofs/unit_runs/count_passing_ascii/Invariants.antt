use Rattle.std.proofs.Common.{◌-◌}
use Rattle.regress_search.specs.UnitRuns.{UnitsPassKeyTest}
use Rattle.regress_search.proofs.unit_runs.count_passing_ascii.Given as goal

abbrev pub invariant-fours : goal.invariant-fours
invariant-fours g l =
    UnitsPassKeyTest (g.W.SearchContext.searching l.context) (g.Test.KeyTest.key_passes l.test) l.from l.most l.count

abbrev pub decreases-fours : goal.decreases-fours
decreases-fours g l = l.most - l.count
