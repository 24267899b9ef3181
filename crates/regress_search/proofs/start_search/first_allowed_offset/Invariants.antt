use Rattle.std.proofs.Common.{◌-◌}
use Rattle.regex_meaning.specs.CodeUnitOffsets.{units}
use Rattle.regress_search.proofs.StartSearchLemmas.{Scans}
use Rattle.regress_search.proofs.start_search.first_allowed_offset.Given as goal

abbrev pub invariant-units : goal.invariant-units
invariant-units g l =
    Scans (g.W.SearchContext.searching l.context) (g.Set.StartSet.table l.set) l.fn.from l.at

abbrev pub decreases-units : goal.decreases-units
decreases-units g l = units (g.W.SearchContext.searching l.context).text - l.at
