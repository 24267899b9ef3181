use Rattle.regress_match.proofs.SearchStartLemmas.{utf16_start}
use Rattle.regress_c.proofs.next_matches.in_utf16.Goals as goal

pub fill-requires-clause-starts : goal.fill-requires-clause-starts
fill-requires-clause-starts c =
    utf16_start _ c.args.units.now _ c.in_ok-executor.ensures.text (λ k _. (c.type_inv.units k).fits) c.args.start (c.splits_surrogate_pair.ensures.whole c.if-splits_surrogate_pair.false)
