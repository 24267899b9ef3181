use Rattle.regress_memo.proofs.MemoKeyLemmas.{nothing-returns}
use Rattle.regress_memo.proofs.no_state_recurs_while_pending.Goals as goal

pub returns : goal.returns
returns c = nothing-returns
