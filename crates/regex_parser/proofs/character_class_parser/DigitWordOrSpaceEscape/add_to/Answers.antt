use Rattle.std.proofs.Common.{◌∙◌, ap}
use Rattle.regex_meaning.specs.Outcomes.{in_intervals}
use Rattle.regex_parser.specs.ClassReaderContracts.{class_member_of_character_class_escape}
use Rattle.regex_pattern_front.specs.AstToSpecTree.{spec_flags_of}
use Rattle.regex_parser.proofs.ClassReaderLemmas.{ok-on, adds-set}
use Rattle.regex_parser.proofs.character_class_parser.DigitWordOrSpaceEscape.add_to.Goals as goal

pub returns : goal.returns
returns c =
    ok-on _ c.append_intervals.result c.append_intervals.ensures
    (λ e. rw e (adds-set (spec_flags_of c.args.flags) c.args.intervals.now.items c.intervals.result.now (class_member_of_character_class_escape c.args.self)
    (λ d. ap (λ x. in_intervals x d) c.intervals.ensures ∙ c.in_ok-set.ensures d)))
