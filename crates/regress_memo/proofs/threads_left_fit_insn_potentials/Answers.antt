use Rattle.regress_memo.proofs.ThreadPotentialLemmas.{turns-weighed}
use Rattle.regress_memo.proofs.threads_left_fit_insn_potentials.Goals as goal

pub returns : goal.returns
returns c = turns-weighed
