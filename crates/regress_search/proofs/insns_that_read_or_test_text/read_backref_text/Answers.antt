use Rattle.std.proofs.Common.{◌<◌, ap, sym, ◌∙◌, arith}
use Rattle.regex_meaning.specs.Outcomes.{is_same}
use Rattle.regex_pattern_front.specs.AstToSpecTree.{spec_sameness_of}
use Rattle.regress_input.specs.CharAndByteReadsFromOffset.{direction_of_forward_flag, past_spelled_if_next, characters_between}
use Rattle.regress_search.specs.OffsetsAfterMatchedInsns.{offset_after_repeated_text}
use Rattle.regress_search.proofs.TextReadLemmas.{nothing-again, none-between}
use Rattle.regress_search.proofs.insns_that_read_or_test_text.read_backref_text.Goals as goal

pub returns-then-pos_to_offset : goal.returns-then-pos_to_offset
returns-then-pos_to_offset g c =
    let text = g.Input.InputIndexer.text c.args.input.now in
    let is = g.met.Input.InputIndexer.is_text c.args.input.now in
    let offset = g.Input.Position.PositionType.offset in
    let less : offset c.args.end < offset c.args.start = omega (arith, c.if-pos_to_offset.true, c.pos_to_offset.ensures, c.pos_to_offset-2.ensures) in
    nothing-again text is (is_same text (spec_sameness_of c.args.same)) (characters_between text (offset c.args.start) (offset c.args.end)) (direction_of_forward_flag g.Dir.Direction.FORWARD) (offset c.args.pos.now) c.requires.at
    (none-between text is (offset c.args.start) (offset c.args.end) c.requires.from c.requires.to less)

pub returns-in-Exact : goal.returns-in-Exact
returns-in-Exact g c =
    let text = g.Input.InputIndexer.text c.args.input.now in
    let offset = g.Input.Position.PositionType.offset in
    c.backref.ensures
    ∙ ap (λ s. offset_after_repeated_text text g.Dir.Direction.FORWARD (spec_sameness_of s) (offset c.args.start) (offset c.args.end) (offset c.args.pos.now)) (sym c.in-Exact.is)

pub returns-in-Folded : goal.returns-in-Folded
returns-in-Folded g c =
    let text = g.Input.InputIndexer.text c.args.input.now in
    let offset = g.Input.Position.PositionType.offset in
    c.backref_icase.ensures
    ∙ ap (λ s. offset_after_repeated_text text g.Dir.Direction.FORWARD (spec_sameness_of s) (offset c.args.start) (offset c.args.end) (offset c.args.pos.now)) (sym c.in-Folded.is)

pub returns-in-Alike : goal.returns-in-Alike
returns-in-Alike g c =
    let text = g.Input.InputIndexer.text c.args.input.now in
    let offset = g.Input.Position.PositionType.offset in
    c.backref_canonical-matches.ensures
    ∙ ap (λ s. offset_after_repeated_text text g.Dir.Direction.FORWARD (spec_sameness_of s) (offset c.args.start) (offset c.args.end) (offset c.args.pos.now)) (sym c.in-Alike.is)
