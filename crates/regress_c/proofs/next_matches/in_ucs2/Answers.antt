use Rattle.regress_match.proofs.SearchStartLemmas.{ucs2_start}
use Rattle.regress_c.proofs.next_matches.in_ucs2.Goals as goal

pub fill-requires-clause-starts : goal.fill-requires-clause-starts
fill-requires-clause-starts c = ucs2_start _ c.args.units.now _ c.in_ok-executor.ensures.text c.args.start
