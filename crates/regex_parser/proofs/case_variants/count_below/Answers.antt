use Rattle.std.proofs.Common.{arith}
use Rattle.regex_parser.proofs.CaseVariantLemmas.{below-through, above-from}
use Rattle.regex_parser.proofs.case_variants.count_below.Goals as goal

pub loop-low-preserved-then-from-bound : goal.loop-low-preserved-then-from-bound
loop-low-preserved-then-from-bound c =
    let i = c.loop-low.invariant in
    (omega (arith, i.1), i.1, below-through c.args.pairs.now c.args.bound _ _ _ c.requires (omega (arith, i.1)) c.from.ensures c.if-from-bound.true, i.3)

pub loop-low-preserved : goal.loop-low-preserved
loop-low-preserved c =
    let i = c.loop-low.invariant in
    (omega (arith, i.1), omega (arith, i.1), i.2, above-from c.args.pairs.now c.args.bound _ _ _ c.requires (omega (arith, i.1)) c.from.ensures c.if-from-bound.false)

pub returns-clause-most : goal.returns-clause-most
returns-clause-most c = let i = c.loop-low.invariant in omega (arith, i.0, i.1)
