use Rattle.std.proofs.Common.{◌<◌, ◌∙◌, ap, length, map, option_map, arith}
use Rattle.regress_search.specs.MatchesAsSpecAnswers.{range_as_pair}
use Rattle.regress_search.proofs.NamedGroupLookup.{one-more}
use Rattle.regress_search.proofs.search_loop.captures_of.Goals as goal

pub loop-id-preserved : goal.loop-id-preserved
loop-id-preserved g c =
    let groups = g.A.SingleAttemptExecutor.groups c.args.executor.now in
    let inside : c.loop-id.id < length groups = omega (arith, c.group_count-count.ensures, c.loop-id-test.true) in
    ap (map (option_map range_as_pair)) c.in_ok-push.ensures.items
    ∙ one-more (option_map range_as_pair) c.loop-id.captures.items c.range_in_offsets.result groups c.loop-id.id c.loop-id.invariant inside (c.range_in_offsets.ensures ∙ c.group.ensures)
