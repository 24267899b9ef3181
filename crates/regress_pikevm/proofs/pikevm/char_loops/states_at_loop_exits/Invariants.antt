use Rattle.std.proofs.Common.{◌≡◌, ℕ, ◌-◌, ◌≤◌, Bool, Some, map}
use Rattle.regex_meaning.specs.CodeUnitOffsets.{IsBoundary, place_at}
use Rattle.regex_pattern_front.specs.AstToSpecTree.{tree_of}
use Rattle.regress_input.specs.CharAndByteReadsFromOffset.{direction_of_forward_flag}
use Rattle.regress_program.specs.CompilationOfTreesAsFunction.{compiled}
use Rattle.regress_program.specs.InsnsAsSpec.{insn_as_spec_insn}
use Rattle.regress_machine.specs.Machine.{test_of}
use Rattle.regress_pikevm.specs.States.{machine_state_of}
use Rattle.regress_search.proofs.CharLoopReach.{IsReaching}
use Rattle.regress_pikevm.proofs.pikevm.char_loops.states_at_loop_exits.Given as goal

abbrev pub invariant-characters : goal.invariant-characters
invariant-characters g l =
    let text = g.Input.InputIndexer.text l.searched.input in
    let offset = g.Input.Position.PositionType.offset in
    record {
      boundary : IsBoundary text (offset l.at);
      fits : l.count ≤ l.run.max_iters;
      reaching :
          (test : ℕ → Bool) (p : ℕ) → test_of (compiled (tree_of l.searched.program.now)) (Some (insn_as_spec_insn l.body)) ≡ Some test → place_at text (offset l.state.pos) ≡ Some p
          → IsReaching text test (direction_of_forward_flag g.Dir.Direction.FORWARD) l.run.min_iters l.run.max_iters p (machine_state_of offset l.state) l.count (offset l.at) (map (λ s. machine_state_of offset s) l.states.items);
    }

abbrev pub decreases-characters : goal.decreases-characters
decreases-characters g l = l.run.max_iters - l.count
