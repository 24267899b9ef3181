use Rattle.std.specs.Prelude.{option_map}
use Rattle.regress_search.proofs.SkippedStartLemmas.{skips-compose}
use Rattle.regress_backtrack.proofs.work_limited.next_start_past_loop_within.Goals as goal

pub returns : goal.returns
returns g c =
    let w = g.W.SearchContext.searching c.args.context.now in
    let offset = g.W.Input.Position.PositionType.offset in
    skips-compose w.tree w.text (offset c.args.from) (offset c.end_of_leading_loop-past.result) (option_map offset c.next_candidate_start_within.result)
    c.end_of_leading_loop-past.ensures c.next_candidate_start_within.ensures
