use Rattle.std.proofs.Common.{arith}
use Rattle.regress_search.proofs.SkippedStartLemmas.{skips-compose}
use Rattle.regress_backtrack.proofs.classicalbacktrack.next_start_past_loop.Goals as goal

pub returns : goal.returns
returns g c =
    let w = g.W.SearchContext.searching c.args.context.now in
    let offset = g.W.Input.Position.PositionType.offset in
    skips-compose w.tree w.text (offset c.args.from) (offset c.end_of_leading_loop-past.result) _ c.end_of_leading_loop-past.ensures c.next_candidate_start.ensures
