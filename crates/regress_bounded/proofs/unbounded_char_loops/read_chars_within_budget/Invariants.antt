use Rattle.std.proofs.Common.{◌-◌}
use Rattle.regress_input.specs.CharAndByteReadsFromOffset.{direction_of_forward_flag}
use Rattle.regress_search.specs.OffsetsAfterMatchedInsns.{char_test_of_insn}
use Rattle.regress_bounded.proofs.CharLoopProgress.{HasPassed}
use Rattle.regress_bounded.proofs.unbounded_char_loops.read_chars_within_budget.Given as goal

abbrev pub invariant-characters : goal.invariant-characters
invariant-characters g l =
    let offset = g.Input.Position.PositionType.offset in
    HasPassed offset (g.Input.InputIndexer.text l.searched.input) (direction_of_forward_flag g.Dir.Direction.FORWARD) (char_test_of_insn l.searched.program.now l.body) l.limit (offset l.fn.pos) l.count l.pos

abbrev pub decreases-characters : goal.decreases-characters
decreases-characters g l = l.limit - l.count
