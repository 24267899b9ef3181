use Rattle.regress_pikevm.proofs.InsnEffectLemmas.{enters}
use Rattle.regress_pikevm.proofs.pikevm.single_insn_execution.state_at_iteration_start.Goals as goal

pub returns : goal.returns
returns g c = enters g.P.PositionType.offset c.args.state c.args.id c.args.begin c.args.k
