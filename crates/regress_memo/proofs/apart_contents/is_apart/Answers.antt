use Rattle.std.proofs.Common.{below_more, arith}
use Rattle.std.proofs.lemmas.Bool.{ltb-true}
use Rattle.regress_memo.proofs.ContentsApartLemmas.{apart-by}
use Rattle.regress_memo.proofs.apart_contents.is_apart.Goals as goal

pub loop-ip-preserved : goal.loop-ip-preserved
loop-ip-preserved c = λ program has. below_more _ _ (c.loop-ip.invariant program has) (c.keeps_side.ensures c.if-not-keeps_side.false program has)

pub returns : goal.returns
returns c = λ some program has.
    apart-by c.args.contents.from c.args.contents.past program c.args.insns.now has (ltb-true _ _ some) (λ k less. c.loop-ip.invariant program has k (omega (arith, less)))
