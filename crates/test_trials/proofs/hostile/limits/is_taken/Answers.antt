use Rattle.regress_match.proofs.SearchStartLemmas.{utf8_start}
use Rattle.test_trials.proofs.hostile.limits.is_taken.Goals as goal

pub finds_two_matches_in_turn-requires-clause-first : goal.finds_two_matches_in_turn-requires-clause-first
finds_two_matches_in_turn-requires-clause-first c = utf8_start _ c.args.text.now _ c.in_ok-executor.ensures.text c.utf8.text 0 c.requires.first

pub finds_two_matches_in_turn-requires-clause-second : goal.finds_two_matches_in_turn-requires-clause-second
finds_two_matches_in_turn-requires-clause-second c = utf8_start _ c.args.text.now _ c.in_ok-executor.ensures.text c.utf8.text c.args.behind c.requires.second
