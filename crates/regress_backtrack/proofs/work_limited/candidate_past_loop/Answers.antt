use Rattle.std.proofs.Common.{arith}
use Rattle.std.specs.Prelude.{option_map}
use Rattle.regress_search.proofs.SkippedStartLemmas.{skips-compose}
use Rattle.regress_backtrack.proofs.work_limited.candidate_past_loop.Goals as goal

pub next_start_past_loop_within-requires : goal.next_start_past_loop_within-requires
next_start_past_loop_within-requires g c =
    record {
      opened = c.requires.opened;
      tried_on = c.requires.tried_on;
      at = c.in_ok-to.ensures.0;
      ahead = omega (arith, c.in_ok-to.ensures.1, c.requires.ahead);
      executable = c.requires.executable;
      no_match = c.requires.no_match;
    }

pub returns : goal.returns
returns g c =
    let w = g.W.SearchContext.searching c.args.context.now in
    let offset = g.W.Input.Position.PositionType.offset in
    skips-compose w.tree w.text (offset c.args.next) (offset c.in_ok-to.to) (option_map offset c.next_start_past_loop_within.result) c.in_ok-to.ensures c.next_start_past_loop_within.ensures
