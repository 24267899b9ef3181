use Rattle.std.proofs.Common.{◌+◌, ◌-◌}
use Rattle.regex_meaning.specs.Outcomes.{is_same}
use Rattle.regex_pattern_front.specs.AstToSpecTree.{spec_sameness_of}
use Rattle.regress_input.specs.CharAndByteReadsFromOffset.{direction_of_forward_flag, characters_between, past_spelled_if_next}
use Rattle.regress_input.proofs.RepeatedRangeLemmas.{Comparing}
use Rattle.regress_input.proofs.matchers.backref_char_by_char.Given as goal

abbrev pub invariant-each : goal.invariant-each
invariant-each g l =
    let text = g.Input.InputIndexer.text l.input in
    let offset = g.Input.Position.PositionType.offset in
    Comparing text (is_same text (spec_sameness_of l.fn.same)) (direction_of_forward_flag g.Dir.Direction.FORWARD) (offset l.at) (offset l.stop) (offset l.pos)
    (past_spelled_if_next text (is_same text (spec_sameness_of l.fn.same)) (characters_between text (offset l.fn.orig_range.start) (offset l.fn.orig_range.end)) (direction_of_forward_flag g.Dir.Direction.FORWARD) (offset l.fn.pos))

abbrev pub decreases-each : goal.decreases-each
decreases-each g l =
    let offset = g.Input.Position.PositionType.offset in
    (offset l.at - offset l.stop) + (offset l.stop - offset l.at)
