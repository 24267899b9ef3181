use Rattle.std.proofs.Common.{subst}
use Rattle.std.specs.Prelude.{option_map}
use Rattle.regress_search.specs.AttemptsAndStarts.{NextStartSkipsNoMatch}
use Rattle.regress_search.proofs.SkippedStartLemmas.{skips-compose}
use Rattle.regress_backtrack.proofs.work_limited.candidate_past_due_leap.Goals as goal

pub returns : goal.returns
returns g c = λ from skips.
    let w = g.W.SearchContext.searching c.args.context.now in
    let offset = g.W.Input.Position.PositionType.offset in
    skips-compose w.tree w.text from (offset c.in_ok-start.start) (option_map offset c.candidate_past_leap.result)
    (subst (λ start. NextStartSkipsNoMatch w.tree w.text from (option_map offset start)) c.in_ok-start.was skips) c.candidate_past_leap.ensures
