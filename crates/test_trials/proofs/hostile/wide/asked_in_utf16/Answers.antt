use Rattle.regress_match.proofs.SearchStartLemmas.{utf16_start}
use Rattle.test_trials.proofs.hostile.wide.asked_in_utf16.Goals as goal

pub finds-requires : goal.finds-requires
finds-requires c = utf16_start _ c.args.units.now _ c.in_ok-executor.ensures.1 (λ k _. (c.type_inv.units k).fits) c.args.start c.requires
