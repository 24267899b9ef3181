use Rattle.regress_match.proofs.SearchStartLemmas.{utf16_start}
use Rattle.regress_c.proofs.next_in_work.fill_utf16_in_work.Goals as goal

pub fill-filled-requires-clause-starts : goal.fill-filled-requires-clause-starts
fill-filled-requires-clause-starts c =
    utf16_start _ c.args.units.now _ c.in_ok-executor.ensures.text (λ k _. (c.type_inv.units k).fits) c.args.start (c.splits_surrogate_pair.ensures.whole c.if-splits_surrogate_pair.false)
