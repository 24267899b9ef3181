use Rattle.std.proofs.Common.{◌-◌}
use Rattle.regex_meaning.specs.CodeUnitOffsets.{units}
use Rattle.regex_pattern_front.specs.AstToSpecTree.{tree_of}
use Rattle.regress_program.specs.CompilationOfTreesAsFunction.{compiled}
use Rattle.regress_search.specs.OffsetsAfterMatchedInsns.{char_test_of_insn}
use Rattle.regress_pikevm.specs.States.{machine_state_of}
use Rattle.regress_bounded.proofs.GreedyLoopScanLemmas.{HasGoneOver}
use Rattle.regress_bounded.proofs.unbounded_char_loops.scan_greedy_loop_with_memo.Given as goal

abbrev pub invariant-places : goal.invariant-places
invariant-places g l =
    let re = l.searched.program.now in
    let offset = g.Input.Position.PositionType.offset in
    HasGoneOver offset (compiled (tree_of re)) (g.Input.InputIndexer.text l.searched.input) l.progress.memo (machine_state_of offset l.state) (char_test_of_insn re l.run.body) l.run.least l.fn.from
    l.progress.left l.fn.stack.items l.stack.items l.at l.count

abbrev pub decreases-places : goal.decreases-places
decreases-places g l = units (g.Input.InputIndexer.text l.searched.input) - g.Input.Position.PositionType.offset l.at
