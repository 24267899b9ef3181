use Rattle.std.proofs.Common.{below_more, arith}
use Rattle.regress_memo.proofs.ContentsApartLemmas.{all-apart}
use Rattle.regress_memo.proofs.apart_contents.are_contents_apart.Goals as goal

pub loop-ip-preserved : goal.loop-ip-preserved
loop-ip-preserved c = λ program has. below_more _ _ (c.loop-ip.invariant program has) (c.is_apart_if_lookaround.ensures c.if-not-is_apart_if_lookaround.false program has)

pub returns : goal.returns
returns c = λ _ program has. all-apart program c.args.insns.now has (λ k less. c.loop-ip.invariant program has k (omega (arith, less)))
