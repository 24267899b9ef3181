use Rattle.regress_match.proofs.SearchStartLemmas.{utf8_start}
use Rattle.test_trials.proofs.hostile.bytes.is_first_match_by_pikevm_expected.Goals as goal

pub finds-requires : goal.finds-requires
finds-requires c = utf8_start _ c.args.text.now _ c.in_ok-executor.ensures.text c.utf8.text c.args.start c.requires
