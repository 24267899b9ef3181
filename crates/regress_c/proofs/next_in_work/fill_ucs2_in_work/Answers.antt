use Rattle.regress_match.proofs.SearchStartLemmas.{ucs2_start}
use Rattle.regress_c.proofs.next_in_work.fill_ucs2_in_work.Goals as goal

pub fill-filled-requires-clause-starts : goal.fill-filled-requires-clause-starts
fill-filled-requires-clause-starts c = ucs2_start _ c.args.units.now _ c.in_ok-executor.ensures.text c.args.start
