use Rattle.std.proofs.Common.{◌-◌}
use Rattle.regress_search.specs.UnitRuns.{UnitsPassKeyTest}
use Rattle.regress_search.proofs.unit_runs.count_passing.Given as goal

abbrev pub invariant-units : goal.invariant-units
invariant-units g l =
    UnitsPassKeyTest (g.W.SearchContext.searching l.context) (g.Test.KeyTest.key_passes l.test) l.from l.most l.count

abbrev pub decreases-units : goal.decreases-units
decreases-units g l = l.most - l.count
