use Rattle.regress_input.specs.CharAndByteReadsFromOffset.{direction_of_forward_flag}
use Rattle.regress_pikevm.proofs.InsnEffectLemmas.{closes}
use Rattle.regress_pikevm.proofs.pikevm.single_insn_execution.close_group.Goals as goal

pub returns : goal.returns
returns g c =
    closes g.P.PositionType.offset c.args.state c.args.id (direction_of_forward_flag g.Dir.Direction.FORWARD) c.index-start.result.now c.span_in_ascending_order.result c.index-start.ensures c.span_in_ascending_order.ensures c.requires.executable
