use Rattle.regress_match.proofs.SearchStartLemmas.{utf8_start}
use Rattle.test_searches.proofs.paid_work.check_bytes.Goals as goal

pub next_from-first-requires : goal.next_from-first-requires
next_from-first-requires c =
    utf8_start _ c.args.text.now _ c.in_ok-executor.ensures.text c.utf8.text c.args.search.start
    (c.is_start.ensures c.if-not-is_start.false)
