use Rattle.regress_match.proofs.SearchStartLemmas.{ucs2_start}
use Rattle.test_trials.proofs.hostile.wide.asked_in_ucs2.Goals as goal

pub finds-requires : goal.finds-requires
finds-requires c = ucs2_start _ c.args.units.now _ c.in_ok-executor.ensures.1 c.args.start
