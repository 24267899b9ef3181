use Rattle.std.proofs.Common.{◌≡◌, None, Some, option_map, subst, sym}
use Rattle.regex_meaning.specs.Text.{rightwards}
use Rattle.regress_input.specs.CharAndByteReadsFromOffset.{past}
use Rattle.regress_search.specs.AttemptsAndStarts.{NextStartSkipsNoMatch, NoMatchAt}
use Rattle.regress_backtrack.proofs.CandidateStartLemmas.{next-after}
use Rattle.regress_backtrack.proofs.work_limited.next_start_by_single_tests.Goals as goal

pub returns-in_err-start : goal.returns-in_err-start
returns-in_err-start g c =
    let w = g.W.SearchContext.searching c.args.context.now in
    let offset = g.W.Input.Position.PositionType.offset in
    let at = offset c.starts.start in
    let vain : NoMatchAt w.tree w.text at = subst (NoMatchAt w.tree w.text) c.offset_in_searched_text-in-starts.ensures (c.is_candidate_start.ensures c.if-is_candidate_start.false) in
    let read = subst (λ t. None ≡ past t rightwards at) c.input.ensures.text c.in_err-start.ensures.read in
    subst (λ r. NextStartSkipsNoMatch w.tree w.text (offset c.args.from) (option_map offset r)) (sym c.from_residual.ensures)
    (next-after w.tree w.text c.requires.executable.is_text (offset c.args.from) at None c.starts.invariant.skips vain read)

pub starts-preserved : goal.starts-preserved
starts-preserved g c =
    let w = g.W.SearchContext.searching c.args.context.now in
    let offset = g.W.Input.Position.PositionType.offset in
    let at = offset c.starts.start in
    let to = offset c.in_ok-start.start in
    let vain : NoMatchAt w.tree w.text at = subst (NoMatchAt w.tree w.text) c.offset_in_searched_text-in-starts.ensures (c.is_candidate_start.ensures c.if-is_candidate_start.false) in
    let read = subst (λ t. Some to ≡ past t rightwards at) c.input.ensures.text c.in_ok-start.ensures.read in
    record { skips = next-after w.tree w.text c.requires.executable.is_text (offset c.args.from) at (Some to) c.starts.invariant.skips vain read }
