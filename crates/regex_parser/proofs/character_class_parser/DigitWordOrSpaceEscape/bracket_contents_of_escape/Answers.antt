use Rattle.std.proofs.Common.{ap}
use Rattle.regex_meaning.specs.Outcomes.{in_intervals}
use Rattle.regex_parser.specs.ClassReaderContracts.{uninverted_digit_word_or_space_set, is_in_any_interval}
use Rattle.regex_pattern_front.specs.AstToSpecTree.{spec_flags_of}
use Rattle.regex_parser.proofs.ClassReaderLemmas.{set-of_class}
use Rattle.regex_parser.proofs.character_class_parser.DigitWordOrSpaceEscape.bracket_contents_of_escape.Goals as goal

pub returns-clause-set : goal.returns-clause-set
returns-clause-set c =
    set-of_class (spec_flags_of c.args.flags) (uninverted_digit_word_or_space_set c.args.self.base) c.in_ok-into_case_closed_set.field-0 (is_in_any_interval c.in_ok-intervals.field-0.items)
    (λ d. ap (λ x. in_intervals x d) c.in_ok-intervals.ensures) c.in_ok-into_case_closed_set.ensures
