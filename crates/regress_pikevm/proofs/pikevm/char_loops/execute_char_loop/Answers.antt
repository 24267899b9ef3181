use Rattle.std.proofs.Common.{Some}
use Rattle.regex_pattern_front.specs.AstToSpecTree.{tree_of}
use Rattle.regress_input.specs.CharAndByteReadsFromOffset.{direction_of_forward_flag}
use Rattle.regress_program.specs.CompilationOfTreesAsFunction.{compiled}
use Rattle.regress_program.specs.InsnsAsSpec.{insn_as_spec_insn}
use Rattle.regress_machine.specs.Machine.{test_of}
use Rattle.regress_pikevm.specs.States.{machine_state_of}
use Rattle.regress_pikevm.proofs.InsnEffectLemmas.{scanned}
use Rattle.regress_pikevm.proofs.pikevm.char_loops.execute_char_loop.Goals as goal

pub returns : goal.returns
returns g c =
    let text = g.Input.InputIndexer.text c.args.searched.now.input in
    let offset = g.Input.Position.PositionType.offset in
    scanned offset text (test_of (compiled (tree_of c.args.searched.now.program.now)) (Some (insn_as_spec_insn c.args.body))) (direction_of_forward_flag g.Dir.Direction.FORWARD) (machine_state_of offset c.args.state)
    c.args.run.min_iters c.args.run.max_iters c.args.run.greedy c.in_ok-tries.tries c.in_ok-tries.states.items _ c.requires.executable c.in_ok-tries.ensures c.states_by_priority.ensures
