use Rattle.std.proofs.Common.{◌++◌, map, ap, ◌∙◌}
use Rattle.regex_meaning.specs.Outcomes.{in_intervals}
use Rattle.regex_meaning.specs.CharacterClasses.{single_code_point_interval}
use Rattle.regex_pattern_front.specs.Intervals.{interval_of}
use Rattle.regex_parser.specs.CaseVariantContracts.{firsts_that_match, is_between}
use Rattle.regex_parser.proofs.ClassReaderLemmas.{ok-on}
use Rattle.regex_parser.proofs.CaseVariantsInGaps.{nearby-added}
use Rattle.regex_parser.proofs.case_variants.add_matching_of_gap.Goals as goal

pub returns : goal.returns
returns c =
    ok-on _ c.add_each.result c.add_each.ensures
    (λ e. nearby-added c.args.unicode (in_intervals c.args.set.now) (is_between c.args.gap.first c.args.gap.last) c.args.intervals.now.items c.add_each.new.intervals.items
    (e ∙ ap (λ xs. map interval_of c.args.intervals.now.items ++ map single_code_point_interval xs)
    (c.deref.ensures.value ∙ c.in_ok-matching.ensures ∙ ap (firsts_that_match c.args.unicode (in_intervals c.args.set.now)) c.fold_pairs_between-pairs.ensures)))
