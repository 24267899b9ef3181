use Rattle.std.proofs.Common.{◌≡◌, ◌∙◌, ◌+◌, ap, sym, Bool, true, false, Some}
use Rattle.regex_pattern_front.specs.AstToSpecTree.{tree_of}
use Rattle.regress_input.specs.CharAndByteReadsFromOffset.{end_if_matched, direction_of_forward_flag}
use Rattle.regress_program.specs.CompilationOfTreesAsFunction.{compiled}
use Rattle.regress_program.specs.InsnsAsSpec.{insn_as_spec_insn}
use Rattle.regress_machine.specs.Machine as machine
use Rattle.regress_machine.specs.Machine.{go_if}
use Rattle.regress_pikevm.specs.States.{machine_state_of}
use Rattle.regress_pikevm.specs.InsnEffects.{effect_of_insn}
use Rattle.regress_search.proofs.MatchedInsnOffsetLemmas.{turn-leads, turn-passes}
use Rattle.regress_pikevm.proofs.pikevm.single_insn_execution.execute_read_or_assertion.Given.{Over}
use Rattle.regress_pikevm.proofs.pikevm.single_insn_execution.execute_read_or_assertion.Goals.{After-match_read_or_assertion_insn}
use Rattle.regress_pikevm.proofs.pikevm.single_insn_execution.execute_read_or_assertion.Goals as goal

pub match_read_or_assertion_insn-requires-clause-executable : goal.match_read_or_assertion_insn-requires-clause-executable
match_read_or_assertion_insn-requires-clause-executable g c =
    let searched = c.args.searched.now in
    let text = g.Input.InputIndexer.text searched.input in
    turn-leads (compiled (tree_of searched.program.now)) text (g.met.Input.InputIndexer.is_text searched.input) (direction_of_forward_flag g.Dir.Direction.FORWARD)
    (insn_as_spec_insn c.args.insn) (machine_state_of g.Input.Position.PositionType.offset c.args.state) c.requires.executable c.requires.reader

-- where it goes, by whether the instruction passes
passed : (g : Over) (c : After-match_read_or_assertion_insn g) (b : Bool) → c.match_read_or_assertion_insn.result ≡ b
    → (let s : machine.State = machine_state_of g.Input.Position.PositionType.offset c.args.state in
    go_if b (record s { ip = s.ip + 1; pos = g.Input.Position.PositionType.offset c.match_read_or_assertion_insn.new.pos })
    ≡ effect_of_insn g.Input.Position.PositionType.offset c.args.searched.now.program.now (g.Input.InputIndexer.text c.args.searched.now.input)
    g.Dir.Direction.FORWARD c.args.insn c.args.state)
passed g c b is =
    let searched = c.args.searched.now in
    let offset = g.Input.Position.PositionType.offset in
    let to = offset c.match_read_or_assertion_insn.new.pos in
    turn-passes (compiled (tree_of searched.program.now)) (g.Input.InputIndexer.text searched.input) (g.met.Input.InputIndexer.is_text searched.input)
    (direction_of_forward_flag g.Dir.Direction.FORWARD) (insn_as_spec_insn c.args.insn) (machine_state_of offset c.args.state) b to c.requires.executable c.requires.reader
    (λ literal. (c.requires.bytes literal).reads) c.requires.inside (ap (λ b. Some (end_if_matched b to)) (sym is) ∙ c.match_read_or_assertion_insn.ensures)

pub returns-then-match_read_or_assertion_insn : goal.returns-then-match_read_or_assertion_insn
returns-then-match_read_or_assertion_insn g c = passed g (goal.at.returns-then-match_read_or_assertion_insn g c).After-match_read_or_assertion_insn true c.if-match_read_or_assertion_insn.true

pub returns-else-match_read_or_assertion_insn : goal.returns-else-match_read_or_assertion_insn
returns-else-match_read_or_assertion_insn g c = passed g (goal.at.returns-else-match_read_or_assertion_insn g c).After-match_read_or_assertion_insn false c.if-match_read_or_assertion_insn.false
