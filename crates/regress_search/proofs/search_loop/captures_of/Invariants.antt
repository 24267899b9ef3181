use Rattle.std.proofs.Common.{◌≡◌, map, option_map, take}
use Rattle.regress_search.specs.MatchesAsSpecAnswers.{range_as_pair}
use Rattle.regress_search.proofs.search_loop.captures_of.Given as goal

abbrev pub invariant-loop-id : goal.invariant-loop-id
invariant-loop-id g l = map (option_map range_as_pair) l.captures.items ≡ take l.id (g.A.SingleAttemptExecutor.groups l.executor)
