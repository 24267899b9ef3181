use Rattle.std.proofs.Common.{sym, ap, ◌∙◌}
use Rattle.regex_pattern_front.specs.AstToSpecTree.{spec_sameness_of}
use Rattle.regress_input.specs.CharAndByteReadsFromOffset.{direction_of_forward_flag}
use Rattle.regress_backtrack.specs.OffsetPastBackreference.{offset_past_repeated_capture}
use Rattle.regress_backtrack.proofs.capture_group_and_backref_ops.offset_after_captured_text.Goals as goal

pub returns-in-Alike : goal.returns-in-Alike
returns-in-Alike g c =
    let text = g.Input.InputIndexer.text c.args.input.now in
    c.offset_after_alike_text.ensures
    ∙ ap (λ s. offset_past_repeated_capture text (spec_sameness_of s) c.args.range (direction_of_forward_flag g.Dir.Direction.FORWARD) c.args.at) (sym c.in-Alike.is)
