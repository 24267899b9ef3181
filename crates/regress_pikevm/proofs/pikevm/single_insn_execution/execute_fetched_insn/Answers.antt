use Rattle.std.proofs.Common.{◌≡◌, ◌+◌, ◌<◌, ◌^◌, Some, sym, subst, arith, rules, length, slice_get}
use Rattle.std.specs.Prelude.{IfOk}
use Rattle.regex_meaning.specs.CodeUnitOffsets.{place_at}
use Rattle.regex_pattern_front.specs.AstToSpecTree.{tree_of}
use Rattle.regress_input.specs.CharAndByteReadsFromOffset.{direction_of_forward_flag}
use Rattle.regress_program.specs.CompilationOfTreesAsFunction.{compiled}
use Rattle.regress_program.specs.InsnsAsSpec.{insn_as_spec_insn}
use Rattle.regress_machine.specs.Machine.{act_on, loop_again_effect, with_some, test_of, scan}
use Rattle.regress_pikevm.specs.States.{machine_state_of, effect_of_next_states}
use Rattle.regress_machine.specs.InsnEffects.{IsNotStuck}
use Rattle.regress_search.proofs.LiteralBytesInCode.{literal-reads}
use Rattle.regress_machine.proofs.InsnFetchLemmas.{again-some, fetched-some}
use Rattle.regress_pikevm.proofs.InsnFetchLemmas.{insn-behind, fits-behind}
use Rattle.regress_pikevm.proofs.pikevm.single_insn_execution.execute_fetched_insn.Goals as goal

pub execute_read_or_assertion-requires-clause-executable : goal.execute_read_or_assertion-requires-clause-executable
execute_read_or_assertion-requires-clause-executable g c = c.requires.executable

pub execute_read_or_assertion-requires-clause-bytes : goal.execute_read_or_assertion-requires-clause-bytes
execute_read_or_assertion-requires-clause-bytes g c = c.requires.bytes

pub execute_read_or_assertion-requires-clause-inside : goal.execute_read_or_assertion-requires-clause-inside
execute_read_or_assertion-requires-clause-inside g c = c.requires.inside

pub execute_read_or_assertion-requires-clause-within : goal.execute_read_or_assertion-requires-clause-within
execute_read_or_assertion-requires-clause-within g c = c.requires.within

pub returns-in-LoopAgain : goal.returns-in-LoopAgain
returns-in-LoopAgain g c =
    let program = compiled (tree_of c.args.searched.now.program.now) in
    let text = g.Input.InputIndexer.text c.args.searched.now.input in
    let offset = g.Input.Position.PositionType.offset in
    let d = direction_of_forward_flag g.Dir.Direction.FORWARD in
    let s = machine_state_of offset c.args.state in
    let begin = c.in-LoopAgain.begin in
    let can = subst (λ i. IsNotStuck (act_on program text d (Some (insn_as_spec_insn i)) s)) c.in-LoopAgain.is c.requires.executable in
    let there = again-some (slice_get program.insns begin) begin s can in
    let head = fetched-some insn_as_spec_insn c.args.insns.now program.insns begin c.index-insns-begin.result c.index-insns-begin.is c.requires.code there in
    subst (λ i. IfOk c.execute_loop_end.result (λ t. effect_of_next_states offset t ≡ act_on program text d (Some (insn_as_spec_insn i)) s)) (sym c.in-LoopAgain.is)
    (subst (λ o. IfOk c.execute_loop_end.result (λ t. effect_of_next_states offset t ≡ loop_again_effect o begin s)) (sym head) c.execute_loop_end.ensures)

pub execute_char_loop-requires-clause-bytes : goal.execute_char_loop-requires-clause-bytes
execute_char_loop-requires-clause-bytes g c = λ literal.
    let re = c.args.searched.now.program.now in
    let s = machine_state_of g.Input.Position.PositionType.offset c.args.state in
    let can = subst (λ i. IsNotStuck (act_on (compiled (tree_of re)) (g.Input.InputIndexer.text c.args.searched.now.input) (direction_of_forward_flag g.Dir.Direction.FORWARD) (Some (insn_as_spec_insn i)) s)) c.in-Loop1CharBody.is c.requires.executable in
    let is = insn-behind re c.args.insns.now c.requires.code (s.ip + 1) _ can c.index-insns-state.result c.index-insns-state.is in
    c.args.searched.now.bytes (literal-reads (tree_of re) (s.ip + 1) (insn_as_spec_insn c.index-insns-state.result) is literal)

pub execute_char_loop-requires-clause-within : goal.execute_char_loop-requires-clause-within
execute_char_loop-requires-clause-within g c =
    let short : length c.args.insns.now < 2 ^ 64 = search rules in
    let s = machine_state_of g.Input.Position.PositionType.offset c.args.state in
    let re = c.args.searched.now.program.now in
    let can = subst (λ i. IsNotStuck (act_on (compiled (tree_of re)) (g.Input.InputIndexer.text c.args.searched.now.input) (direction_of_forward_flag g.Dir.Direction.FORWARD) (Some (insn_as_spec_insn i)) s)) c.in-Loop1CharBody.is c.requires.executable in
    let below = fits-behind re c.args.insns.now c.requires.code (s.ip + 1) _ can short in
    omega (arith, below)

pub returns-in-Loop1CharBody : goal.returns-in-Loop1CharBody
returns-in-Loop1CharBody g c =
    let re = c.args.searched.now.program.now in
    let program = compiled (tree_of re) in
    let text = g.Input.InputIndexer.text c.args.searched.now.input in
    let d = direction_of_forward_flag g.Dir.Direction.FORWARD in
    let offset = g.Input.Position.PositionType.offset in
    let s = machine_state_of offset c.args.state in
    let can = subst (λ i. IsNotStuck (act_on program text d (Some (insn_as_spec_insn i)) s)) c.in-Loop1CharBody.is c.requires.executable in
    let body = insn-behind re c.args.insns.now c.requires.code (s.ip + 1) _ can c.index-insns-state.result c.index-insns-state.is in
    subst (λ i. IfOk c.execute_char_loop.result (λ t. effect_of_next_states offset t ≡ act_on program text d (Some (insn_as_spec_insn i)) s)) (sym c.in-Loop1CharBody.is)
    (subst (λ o. IfOk c.execute_char_loop.result (λ t. effect_of_next_states offset t ≡ with_some (test_of program o) (λ test. with_some (place_at text s.pos) (λ p.
    scan text c.in-Loop1CharBody.min_iters c.in-Loop1CharBody.max_iters c.in-Loop1CharBody.greedy test d p s)))) (sym body) c.execute_char_loop.ensures)
