use Rattle.regress_memo.proofs.CappedCharLoopLemmas.{looks-pay}
use Rattle.regress_memo.proofs.lookaround_costs_are_covered.Goals as goal

pub returns : goal.returns
returns c = looks-pay
