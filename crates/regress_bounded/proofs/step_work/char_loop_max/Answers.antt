use Rattle.regress_bounded.proofs.ThreadTurnLemmas.{char-loop-other}
use Rattle.regress_bounded.proofs.step_work.char_loop_max.Goals as goal

pub returns-in_default : goal.returns-in_default
returns-in_default c = char-loop-other c.args.insn c.in_default.not-Loop1CharBody
