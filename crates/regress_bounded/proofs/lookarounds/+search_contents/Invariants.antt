use Rattle.std.proofs.Common.{◌≡◌}
use Rattle.regex_pattern_front.specs.AstToSpecTree.{tree_of}
use Rattle.regress_input.specs.CharAndByteReadsFromOffset.{direction_of_forward_flag}
use Rattle.regress_program.specs.CompilationOfTreesAsFunction.{compiled}
use Rattle.regress_pikevm.specs.States.{machine_state_of, pending_threads}
use Rattle.regress_bounded.proofs.ContentsSearchLemmas.{ContentsRemain}
use Rattle.regress_bounded.proofs.lookarounds.+search_contents.Given as goal

abbrev pub decreases-search_contents : goal.decreases-search_contents
decreases-search_contents g l = l.progress.now.left

abbrev pub invariant-search : goal.invariant-search
invariant-search g l =
    let offset = g.Input.Position.PositionType.offset in
    record {
      remains : ContentsRemain (compiled (tree_of l.searched.program.now)) (g.Input.InputIndexer.text l.searched.input) (direction_of_forward_flag l.fn.forward) (machine_state_of offset l.fn.start)
          l.fn.progress.left l.progress.left (pending_threads offset l.next l.stack.items);
      memo : l.progress.memo ≡ l.fn.progress.memo;
    }

abbrev pub decreases-search : goal.decreases-search
decreases-search g l = l.progress.left
