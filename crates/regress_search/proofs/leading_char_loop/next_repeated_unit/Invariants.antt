use Rattle.std.proofs.Common.{ℕ, ◌-◌, ◌≤◌, ◌<◌}
use Rattle.regex_meaning.specs.CodeUnitOffsets.{units}
use Rattle.regress_search.specs.DeadThreads.{NextUnitDoesNotRepeatCharUnit}
use Rattle.regress_search.proofs.leading_char_loop.next_repeated_unit.Given as goal

abbrev pub invariant-units : goal.invariant-units
invariant-units g l =
    let w = g.W.SearchContext.searching l.context in
    (l.fn.from ≤ l.at) × (l.at ≤ units w.text) × ((x : ℕ) → l.fn.from ≤ x → x < l.at → NextUnitDoesNotRepeatCharUnit w x)

abbrev pub decreases-units : goal.decreases-units
decreases-units g l = l.end - l.at
