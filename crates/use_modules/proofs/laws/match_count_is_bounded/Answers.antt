use Rattle.regress_match.specs.ProgramTreesAndAnswers.{bytes_as_utf8_text, tree_for_byte_units}
use Rattle.use_modules.proofs.laws.match_count_is_bounded.Goals as goal

pub returns : goal.returns
returns c = λ place at.
    let tree = tree_for_byte_units c.args.re.now in
    let text = c.args.text.now in
    c.answer_count_is_bounded.ensures tree.root (bytes_as_utf8_text c.args.re.now text) (c.encoded_texts_have_rising_offsets.ensures text tree.flags.unicode).0 0 place at
