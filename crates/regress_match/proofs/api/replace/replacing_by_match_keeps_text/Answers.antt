use Rattle.std.proofs.Common.{take}
use Rattle.regex_meaning.specs.Text.{utf8_text}
use Rattle.regex_meaning.proofs.MatchOrderLemmas.{answers-StandInOrder}
use Rattle.regex_meaning.proofs.CodeUnitOffsetsLemmas.{utf8_text-IsText}
use Rattle.regex_meaning.proofs.ReplaceAndEscapeLemmas.{replaced-whole}
use Rattle.regress_match.specs.ProgramTreesAndAnswers.{tree_for_byte_units, utf8_answers}
use Rattle.regress_match.proofs.StringClosureLemmas.{first-stands}
use Rattle.regress_match.proofs.api.replace.replacing_by_match_keeps_text.Goals as goal

pub returns : goal.returns
returns c re text =
    let tree = tree_for_byte_units re in
    let unicode = tree.flags.unicode in
    let answers = utf8_answers re text 0 in
    let stand = answers-StandInOrder tree.root (utf8_text text unicode) (utf8_text-IsText text unicode) 0 in
    (replaced-whole text 0 (take 1 answers) (first-stands 0 answers stand), replaced-whole text 0 answers stand)
