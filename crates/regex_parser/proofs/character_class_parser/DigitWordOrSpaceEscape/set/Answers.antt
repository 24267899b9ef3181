use Rattle.std.proofs.Common.{◌∙◌, sym}
use Rattle.regex_parser.specs.ClassReaderContracts.{uninverted_digit_word_or_space_set}
use Rattle.regex_pattern_front.specs.AstToSpecTree.{spec_flags_of}
use Rattle.regex_parser.proofs.ClassReaderLemmas.{ok-map, class-has, class-has_not}
use Rattle.regex_parser.proofs.character_class_parser.DigitWordOrSpaceEscape.set.Goals as goal

pub returns-then-contents : goal.returns-then-contents
returns-then-contents c =
    rw (sym c.in_ok-contents.ensures.invert ∙ c.if-contents.true)
    (ok-map c.inverted.result c.inverted.ensures.members
    (λ s h. class-has_not (spec_flags_of c.args.flags) (uninverted_digit_word_or_space_set c.args.self.base) c.in_ok-contents.contents.cps s c.in_ok-contents.ensures.set h))

pub returns-else-contents : goal.returns-else-contents
returns-else-contents c =
    rw (sym c.in_ok-contents.ensures.invert ∙ c.if-contents.false)
    (class-has (spec_flags_of c.args.flags) (uninverted_digit_word_or_space_set c.args.self.base) c.in_ok-contents.contents.cps c.in_ok-contents.ensures.set)
