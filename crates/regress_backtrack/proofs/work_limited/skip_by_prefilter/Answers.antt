use Rattle.std.proofs.Common.{arith}
use Rattle.regress_input.proofs.BoundaryPositions.{boundary_inside}
use Rattle.regress_backtrack.proofs.LeapMemoryLemmas.{start-ahead, start-on}
use Rattle.regress_backtrack.proofs.work_limited.skip_by_prefilter.Goals as goal

pub last_affordable_offset-limit-requires : goal.last_affordable_offset-limit-requires
last_affordable_offset-limit-requires g c =
    let inside = boundary_inside _ c.requires.executable.is_text _ c.requires.at in
    let at = c.offset_in_searched_text-at.ensures in
    omega (arith, inside, at)

pub candidate_past_due_leap-next-requires-clause-at : goal.candidate_past_due_leap-next-requires-clause-at
candidate_past_due_leap-next-requires-clause-at g c =
    let w = g.W.SearchContext.searching c.args.context.now in
    let offset = g.W.Input.Position.PositionType.offset in
    start-on offset w.tree w.text (offset c.args.from) c.next_candidate_start_within-start.result c.next_candidate_start_within-start.ensures

pub units_to_start-requires-clause-end : goal.units_to_start-requires-clause-end
units_to_start-requires-clause-end g c =
    let inside = boundary_inside _ c.requires.executable.is_text _ c.requires.at in
    let at = c.offset_in_searched_text-at.ensures in
    omega (arith, inside, at)

pub units_to_start-requires-clause-ahead : goal.units_to_start-requires-clause-ahead
units_to_start-requires-clause-ahead g c =
    let w = g.W.SearchContext.searching c.args.context.now in
    let offset = g.W.Input.Position.PositionType.offset in
    let from = offset c.args.from in
    start-ahead offset w.tree w.text from c.offset_in_searched_text-at.result c.candidate_past_due_leap-next.result c.offset_in_searched_text-at.ensures (c.candidate_past_due_leap-next.ensures from c.next_candidate_start_within-start.ensures)

pub returns-clause-next : goal.returns-clause-next
returns-clause-next g c = c.candidate_past_due_leap-next.ensures (g.W.Input.Position.PositionType.offset c.args.from) c.next_candidate_start_within-start.ensures
