use Rattle.std.proofs.Common.{arith}
use Rattle.regress_input.proofs.BoundaryPositions.{boundary_inside}
use Rattle.regress_backtrack.proofs.LeapMemoryLemmas.{start-ahead, start-on}
use Rattle.regress_backtrack.proofs.work_limited.skip_past_loop.Goals as goal

pub last_affordable_offset-limit-requires : goal.last_affordable_offset-limit-requires
last_affordable_offset-limit-requires g c =
    let inside = boundary_inside _ c.requires.executable.is_text _ c.requires.at in
    let at = c.offset_in_searched_text-at.ensures in
    omega (arith, inside, at)

pub candidate_past_due_leap-to-requires-clause-at : goal.candidate_past_due_leap-to-requires-clause-at
candidate_past_due_leap-to-requires-clause-at g c =
    let w = g.W.SearchContext.searching c.args.context.now in
    let offset = g.W.Input.Position.PositionType.offset in
    start-on offset w.tree w.text (offset c.args.next) c.candidate_past_loop-start.result c.candidate_past_loop-start.ensures

pub units_to_start-requires-clause-end : goal.units_to_start-requires-clause-end
units_to_start-requires-clause-end g c =
    let inside = boundary_inside _ c.requires.executable.is_text _ c.requires.at in
    let at = c.offset_in_searched_text-at.ensures in
    omega (arith, inside, at)

pub units_to_start-requires-clause-ahead : goal.units_to_start-requires-clause-ahead
units_to_start-requires-clause-ahead g c =
    let w = g.W.SearchContext.searching c.args.context.now in
    let offset = g.W.Input.Position.PositionType.offset in
    let from = offset c.args.next in
    start-ahead offset w.tree w.text from c.offset_in_searched_text-at.result c.candidate_past_due_leap-to.result c.offset_in_searched_text-at.ensures (c.candidate_past_due_leap-to.ensures from c.candidate_past_loop-start.ensures)

pub returns-clause-next : goal.returns-clause-next
returns-clause-next g c = c.candidate_past_due_leap-to.ensures (g.W.Input.Position.PositionType.offset c.args.next) c.candidate_past_loop-start.ensures
