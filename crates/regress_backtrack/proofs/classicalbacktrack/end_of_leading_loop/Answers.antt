use Rattle.std.proofs.Common.{arith, le_refl, subst, sym}
use Rattle.regress_search.specs.AttemptsAndStarts.{NoMatchAt}
use Rattle.regress_backtrack.proofs.CandidateStartLemmas.{past-run}
use Rattle.regress_backtrack.proofs.classicalbacktrack.end_of_leading_loop.Goals as goal

pub returns-then-past-offset_in_searched_text : goal.returns-then-past-offset_in_searched_text
returns-then-past-offset_in_searched_text g c = (c.requires.at, le_refl _, λ at on le less. absurd (omega (arith, le, less)))

pub returns : goal.returns
returns g c =
    let w = g.W.SearchContext.searching c.args.context.now in
    let tried = c.offset_in_searched_text.result in
    let from = c.offset_in_searched_text-2.result in
    let past = c.skip_leading_char_loop-past.result in
    let behind = c.skip_leading_char_loop-past.ensures in
    let none = subst (NoMatchAt w.tree w.text) (sym c.offset_in_searched_text.ensures) c.requires.no_match in
    let first =
    past-run w (g.met.W.SearchContext.has_units c.args.context.now).is_text tried from past behind.at (omega (arith, c.offset_in_searched_text.ensures, c.offset_in_searched_text-2.ensures, c.requires.ahead))
    (omega (arith, c.if-past-offset_in_searched_text.false)) none behind.no_match in
    rw (← c.offset_in_searched_text-2.ensures) (rw c.position_in_searched_text.ensures first)
