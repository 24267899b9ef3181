use Rattle.regress_match.proofs.SearchStartLemmas.{utf8_start}
use Rattle.test_trials.proofs.limits.need.Goals as goal

pub ask-requires : goal.ask-requires
ask-requires c = utf8_start _ c.args.text.now _ c.in_ok-executor.ensures.text c.utf8.text c.args.start c.requires
