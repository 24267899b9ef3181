use Rattle.regex_pattern_front.specs.AstToSpecTree.{spec_sameness_of}
use Rattle.regress_input.specs.CharAndByteReadsFromOffset.{direction_of_forward_flag}
use Rattle.regress_machine.specs.Machine.{read_group}
use Rattle.regress_pikevm.specs.States.{offset_range_of_group, machine_state_of}
use Rattle.regress_pikevm.proofs.InsnEffectLemmas.{by-index}
use Rattle.regress_pikevm.proofs.pikevm.single_insn_execution.execute_backref.Goals as goal

pub returns : goal.returns
returns g c =
    let text = g.Input.InputIndexer.text c.args.searched.now.input in
    let offset = g.Input.Position.PositionType.offset in
    by-index (offset_range_of_group offset) c.args.state.groups.items c.args.group c.index-range.result.now
    (λ range. read_group text (spec_sameness_of c.args.same) (direction_of_forward_flag g.Dir.Direction.FORWARD) range (machine_state_of offset c.args.state)) _ c.index-range.ensures c.requires.executable c.read_range_again.ensures
