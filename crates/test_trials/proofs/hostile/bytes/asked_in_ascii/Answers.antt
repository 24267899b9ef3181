use Rattle.regress_match.proofs.SearchStartLemmas.{ascii_start}
use Rattle.test_trials.proofs.hostile.bytes.asked_in_ascii.Goals as goal

pub finds-requires : goal.finds-requires
finds-requires c = ascii_start _ c.args.text.now _ c.in_ok-executor.ensures.text c.args.start
