use Rattle.regress_pikevm.proofs.InsnEffectLemmas.{opens}
use Rattle.regress_pikevm.proofs.pikevm.single_insn_execution.open_group.Goals as goal

pub returns : goal.returns
returns g c = opens g.P.PositionType.offset c.args.state c.args.id c.requires.executable
