use Rattle.regress_bounded.proofs.ThreadTurnLemmas.{goal-other}
use Rattle.regress_bounded.proofs.thread_steps_and_backtracking.is_goal.Goals as goal

pub returns-in_default : goal.returns-in_default
returns-in_default c = goal-other c.args.insn c.in_default.not-Goal
