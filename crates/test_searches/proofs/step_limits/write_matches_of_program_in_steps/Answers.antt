use Rattle.std.proofs.Common.{rules}
use Rattle.regress_match.proofs.SearchStartLemmas.{utf8_start}
use Rattle.test_searches.proofs.step_limits.write_matches_of_program_in_steps.Goals as goal

pub new-matches-requires : goal.new-matches-requires
new-matches-requires c = utf8_start _ c.args.text.now _ c.in_ok-executor.ensures.text c.utf8.text c.args.start (search rules)
