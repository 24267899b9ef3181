use Rattle.std.proofs.Common.{◌∙◌, ap}
use Rattle.regex_parser.specs.ClassReaderContracts.{is_in_any_interval}
use Rattle.regex_pattern_front.specs.AstToSpecTree.{spec_flags_of}
use Rattle.regex_parser.proofs.EcmaClassLemmas.{base-closed}
use Rattle.regex_parser.proofs.ecmascript_classes.class_of_letter_escape.Goals as goal

pub returns-clause-set : goal.returns-clause-set
returns-clause-set c =
    base-closed (spec_flags_of c.args.flags) c.args.escape.base c.in_ok-from_intervals.field-0 c.in_ok-from_intervals.ensures.apart
    (λ d. c.in_ok-from_intervals.ensures.members d ∙ ap (λ x. is_in_any_interval x d) c.deref.ensures.value ∙ c.in_ok-intervals.ensures d)
