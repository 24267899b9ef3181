use Rattle.std.proofs.Common.{inl, refl}
use Rattle.regress_input.proofs.Utf16Reads.{boundary-start}
use Rattle.regress_match.proofs.SearchStartLemmas.{utf16_start}
use Rattle.test_searches.proofs.paid_work.check_utf16.Goals as goal

pub next_from-first-requires : goal.next_from-first-requires
next_from-first-requires c =
    utf16_start _ c.args.units.now _ c.in_ok-executor.ensures.text (λ k _. (c.type_inv.units k).fits) 0
    (inl (boundary-start c.args.units.now (λ k _. (c.type_inv.units k).fits) 0 refl))
