use Rattle.regress_memo.proofs.CappedCharLoopLemmas.{others-paid}
use Rattle.regress_memo.proofs.bounded_loop_costs_are_covered.Goals as goal

pub returns : goal.returns
returns c = others-paid
