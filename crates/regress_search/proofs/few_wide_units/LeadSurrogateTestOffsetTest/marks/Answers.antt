use Rattle.std.proofs.Common.{arith}
use Rattle.regress_search.proofs.WideUnitLemmas.{bits-mark}
use Rattle.regress_search.proofs.few_wide_units.LeadSurrogateTestOffsetTest.marks.Goals as goal

pub returns : goal.returns
returns g c =
    bits-mark (g.W.SearchContext.searching c.args.context.now) (g.met.W.SearchContext.has_units c.args.context.now) 0xFC00 0xD800 c.args.at
    c.units_with_bits.result (omega (arith, c.requires)) c.units_with_bits.ensures
