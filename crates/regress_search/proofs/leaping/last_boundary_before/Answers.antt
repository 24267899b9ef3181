use Rattle.std.proofs.Common.{arith}
use Rattle.regress_search.proofs.LeapLemmas.{low-key-boundary}
use Rattle.regress_search.proofs.leaping.last_boundary_before.Goals as goal

pub returns-then-unit_key_at_offset-lt128-clause-boundary : goal.returns-then-unit_key_at_offset-lt128-clause-boundary
returns-then-unit_key_at_offset-lt128-clause-boundary g c =
    let w = g.W.SearchContext.searching c.args.context.now in
    low-key-boundary w (g.met.W.SearchContext.has_units c.args.context.now) _ c.unit_key_at_offset.result c.unit_key_at_offset.ensures.is (omega (arith, c.if-unit_key_at_offset-lt128.true))
