use Rattle.std.proofs.Common.{◌+◌, ◌-◌, Some}
use Rattle.regex_meaning.specs.CodeUnitOffsets.{units}
use Rattle.regress_search.specs.AttemptsAndStarts.{NextStartSkipsNoMatch}
use Rattle.regress_backtrack.proofs.work_limited.next_start_by_single_tests.Given as goal

abbrev pub invariant-starts : goal.invariant-starts
invariant-starts g l =
    let w = g.W.SearchContext.searching l.fn.context in
    let offset = g.W.Input.Position.PositionType.offset in
    record { skips : NextStartSkipsNoMatch w.tree w.text (offset l.fn.from) (Some (offset l.start)) }

abbrev pub decreases-starts : goal.decreases-starts
decreases-starts g l = units (g.W.SearchContext.searching l.fn.context).text + 1 - g.W.Input.Position.PositionType.offset l.start
