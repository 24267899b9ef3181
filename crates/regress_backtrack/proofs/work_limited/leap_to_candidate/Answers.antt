use Rattle.std.proofs.Common.{Some, None, subst, sym}
use Rattle.std.specs.Prelude.{option_map}
use Rattle.regex_meaning.specs.CodeUnitOffsets.{IsBoundary}
use Rattle.regress_search.specs.AttemptsAndStarts.{NextStartSkipsNoMatch}
use Rattle.regress_search.proofs.SkippedStartLemmas.{skips-compose}
use Rattle.regress_backtrack.proofs.LeapMemoryLemmas.{covered-stays, leap-within-excludes}
use Rattle.regress_backtrack.proofs.work_limited.leap_to_candidate.Goals as goal

pub leap_target_within-requires-clause-ascii : goal.leap_target_within-requires-clause-ascii
leap_target_within-requires-clause-ascii g c = c.requires.leap.ascii

pub leap_target_within-requires-clause-alike : goal.leap_target_within-requires-clause-alike
leap_target_within-requires-clause-alike g c = c.requires.leap.alike

pub next_candidate_start_within-requires-clause-at : goal.next_candidate_start_within-requires-clause-at
next_candidate_start_within-requires-clause-at g c =
    let w = g.W.SearchContext.searching c.args.context.now in
    subst (IsBoundary w.text) (sym c.position_in_searched_text-to.ensures) c.in-Some.ensures.1.boundary

pub returns-in-Some-clause-next : goal.returns-in-Some-clause-next
returns-in-Some-clause-next g c =
    let w = g.W.SearchContext.searching c.args.context.now in
    let offset = g.W.Input.Position.PositionType.offset in
    let from = offset c.args.start in
    let to = offset c.position_in_searched_text-to.result in
    let leads = leap-within-excludes w (g.met.W.SearchContext.has_units c.args.context.now) c.requires.executable c.args.leap.now c.requires.leap c.offset_in_searched_text-from.result c.limit_of_leap-reach.result (Some c.in-Some.target) c.in-Some.ensures in
    skips-compose w.tree w.text from to (option_map offset c.next_candidate_start_within.result)
    (subst (λ at. NextStartSkipsNoMatch w.tree w.text at (Some to)) c.offset_in_searched_text-from.ensures
    (subst (λ n. NextStartSkipsNoMatch w.tree w.text c.offset_in_searched_text-from.result (Some n)) (sym c.position_in_searched_text-to.ensures) leads))
    c.next_candidate_start_within.ensures

pub returns-in-None-clause-next : goal.returns-in-None-clause-next
returns-in-None-clause-next g c =
    let w = g.W.SearchContext.searching c.args.context.now in
    subst (λ at. NextStartSkipsNoMatch w.tree w.text at None) c.offset_in_searched_text-from.ensures
    (leap-within-excludes w (g.met.W.SearchContext.has_units c.args.context.now) c.requires.executable c.args.leap.now c.requires.leap c.offset_in_searched_text-from.result c.limit_of_leap-reach.result None c.in-None.ensures)

pub returns-in-Some-clause-paid : goal.returns-in-Some-clause-paid
returns-in-Some-clause-paid g c = λ le.
    covered-stays _ _ _ _ _ _ _ le c.limit_of_leap-reach.ensures.exact c.in-Some.ensures.1.ahead c.in-Some.ensures.0.within c.note_leap.ensures
