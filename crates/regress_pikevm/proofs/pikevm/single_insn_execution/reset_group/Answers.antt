use Rattle.regress_pikevm.proofs.InsnEffectLemmas.{resets}
use Rattle.regress_pikevm.proofs.pikevm.single_insn_execution.reset_group.Goals as goal

pub returns : goal.returns
returns g c = resets g.P.PositionType.offset c.args.state c.args.id c.requires.executable
