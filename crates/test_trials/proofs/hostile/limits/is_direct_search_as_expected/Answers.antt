use Rattle.regress_match.proofs.SearchStartLemmas.{utf8_start}
use Rattle.test_trials.proofs.hostile.limits.is_direct_search_as_expected.Goals as goal

pub answers-requires : goal.answers-requires
answers-requires c = utf8_start _ c.args.text.now _ c.in_ok-executor.ensures.text c.utf8.text c.args.start c.requires
