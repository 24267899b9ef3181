use Rattle.regress_match.proofs.SearchStartLemmas.{ucs2_start}
use Rattle.test_searches.proofs.paid_work.check_ucs2.Goals as goal

pub next_from-first-requires : goal.next_from-first-requires
next_from-first-requires c = ucs2_start _ c.args.units.now _ c.in_ok-executor.ensures.text 0
