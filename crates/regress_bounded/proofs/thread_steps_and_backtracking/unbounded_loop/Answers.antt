use Rattle.regress_bounded.proofs.ThreadTurnLemmas.{unbounded_loop-other}
use Rattle.regress_bounded.proofs.thread_steps_and_backtracking.unbounded_loop.Goals as goal

pub returns-in_default : goal.returns-in_default
returns-in_default c = unbounded_loop-other c.args.insn c.in_default.not-Loop1CharBody
