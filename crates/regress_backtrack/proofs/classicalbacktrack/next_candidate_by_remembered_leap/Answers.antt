use Rattle.std.proofs.Common.{subst, sym}
use Rattle.std.specs.Prelude.{option_map}
use Rattle.regex_meaning.specs.CodeUnitOffsets.{IsBoundary}
use Rattle.regress_search.proofs.SkippedStartLemmas.{skips-compose}
use Rattle.regress_backtrack.proofs.classicalbacktrack.next_candidate_by_remembered_leap.Goals as goal

pub returns : goal.returns
returns g c =
    let w = g.W.SearchContext.searching c.args.context.now in
    let on = subst (IsBoundary w.text) (sym c.offset_in_searched_text.ensures) c.requires.at in
    let first = c.in_ok-past.ensures w.tree w.text on c.requires.no_match_in_last_leap in
    let next = option_map g.W.Input.Position.PositionType.offset c.next_candidate_start.result in
    rw (← c.offset_in_searched_text.ensures)
    (skips-compose w.tree w.text c.offset_in_searched_text.result c.in_ok-past.past next first (rw (← c.position_in_searched_text.ensures) c.next_candidate_start.ensures))
