use Rattle.std.proofs.Common.{rules}
use Rattle.regress_match.proofs.SearchStartLemmas.{utf8_start}
use Rattle.test_searches.proofs.step_limits.write_first_match_and_left_steps.Goals as goal

pub first_match_from_start-requires : goal.first_match_from_start-requires
first_match_from_start-requires c = utf8_start _ c.args.text.now _ c.in_ok-executor.ensures.text c.utf8.text c.args.start (search rules)
