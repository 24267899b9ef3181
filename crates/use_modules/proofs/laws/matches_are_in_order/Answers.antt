use Rattle.regress_match.specs.ProgramTreesAndAnswers.{bytes_as_utf8_text, tree_for_byte_units}
use Rattle.use_modules.proofs.laws.matches_are_in_order.Goals as goal

pub returns : goal.returns
returns c =
    let tree = tree_for_byte_units c.args.re.now in
    let text = c.args.text.now in
    c.answers_are_ordered_without_overlap.ensures tree.root (bytes_as_utf8_text c.args.re.now text) (c.encoded_texts_have_rising_offsets.ensures text tree.flags.unicode).0 0
