use Rattle.regress_match.specs.ProgramTreesAndAnswers.{tree_for_byte_units}
use Rattle.use_modules.proofs.laws.same_matches_in_ascii.Goals as goal

pub returns : goal.returns
returns c = λ ascii.
    let tree = tree_for_byte_units c.args.re.now in
    c.ascii_and_utf8_answers_agree.ensures tree.root c.args.text.now tree.flags.unicode 0 ascii
