use Rattle.std.proofs.Common.{◌≡◌, ◌<◌, ◌^◌, sym, subst, rules, length}
use Rattle.std.specs.Prelude.{IfOk}
use Rattle.regex_pattern_front.specs.AstToSpecTree.{tree_of}
use Rattle.regress_input.specs.CharAndByteReadsFromOffset.{direction_of_forward_flag}
use Rattle.regress_program.specs.CompilationOfTreesAsFunction.{compiled}
use Rattle.regress_program.specs.InsnsAsSpec.{insn_as_spec_insn}
use Rattle.regress_machine.specs.Machine.{act_on}
use Rattle.regress_pikevm.specs.States.{machine_state_of, effect_of_next_states}
use Rattle.regress_machine.specs.InsnEffects.{IsNotStuck}
use Rattle.regress_search.proofs.LiteralBytesInCode.{literal-reads}
use Rattle.regress_pikevm.proofs.InsnFetchLemmas.{insn-here, fits-here}
use Rattle.regress_pikevm.proofs.pikevm.single_insn_execution.execute_insn.Goals as goal

pub execute_fetched_insn-requires-clause-executable : goal.execute_fetched_insn-requires-clause-executable
execute_fetched_insn-requires-clause-executable g c =
    let re = c.args.searched.now.program.now in
    let text = g.Input.InputIndexer.text c.args.searched.now.input in
    let d = direction_of_forward_flag g.Dir.Direction.FORWARD in
    let s = machine_state_of g.Input.Position.PositionType.offset c.args.state in
    subst (λ o. IsNotStuck (act_on (compiled (tree_of re)) text d o s))
    (insn-here re c.args.insns.now c.requires.code text d s c.requires.executable c.index-insns-state.result c.index-insns-state.is) c.requires.executable

pub execute_fetched_insn-requires-clause-bytes : goal.execute_fetched_insn-requires-clause-bytes
execute_fetched_insn-requires-clause-bytes g c = λ literal.
    let s = machine_state_of g.Input.Position.PositionType.offset c.args.state in
    c.args.searched.now.bytes (literal-reads (tree_of c.args.searched.now.program.now) s.ip (insn_as_spec_insn c.index-insns-state.result)
    (insn-here c.args.searched.now.program.now c.args.insns.now c.requires.code (g.Input.InputIndexer.text c.args.searched.now.input) (direction_of_forward_flag g.Dir.Direction.FORWARD) s c.requires.executable c.index-insns-state.result c.index-insns-state.is) literal)

pub execute_fetched_insn-requires-clause-within : goal.execute_fetched_insn-requires-clause-within
execute_fetched_insn-requires-clause-within g c =
    let text = g.Input.InputIndexer.text c.args.searched.now.input in
    let short : length c.args.insns.now < 2 ^ 64 = search rules in
    fits-here c.args.searched.now.program.now c.args.insns.now c.requires.code text (direction_of_forward_flag g.Dir.Direction.FORWARD)
    (machine_state_of g.Input.Position.PositionType.offset c.args.state) c.requires.executable short

pub returns : goal.returns
returns g c =
    let re = c.args.searched.now.program.now in
    let text = g.Input.InputIndexer.text c.args.searched.now.input in
    let offset = g.Input.Position.PositionType.offset in
    let s = machine_state_of offset c.args.state in
    let is = insn-here re c.args.insns.now c.requires.code text (direction_of_forward_flag g.Dir.Direction.FORWARD) s c.requires.executable c.index-insns-state.result c.index-insns-state.is in
    subst (λ o. IfOk c.execute_fetched_insn.result (λ t. effect_of_next_states offset t ≡ act_on (compiled (tree_of re)) text (direction_of_forward_flag g.Dir.Direction.FORWARD) o s)) (sym is) c.execute_fetched_insn.ensures
