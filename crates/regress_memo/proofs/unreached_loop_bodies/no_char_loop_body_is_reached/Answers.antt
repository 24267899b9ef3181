use Rattle.std.proofs.Common.{below_more, arith}
use Rattle.regress_memo.proofs.UnreachedLoopBodyLemmas.{past-all}
use Rattle.regress_memo.proofs.unreached_loop_bodies.no_char_loop_body_is_reached.Goals as goal

pub loop-ip-preserved : goal.loop-ip-preserved
loop-ip-preserved c = λ program has. below_more _ _ (c.loop-ip.invariant program has) (c.leads_past_char_loop_bodies.ensures c.if-not-leads_past_char_loop_bodies.false program has)

pub returns : goal.returns
returns c = λ _ program has. past-all program c.args.insns.now has (λ k less. c.loop-ip.invariant program has k (omega (arith, less)))
