use Rattle.std.proofs.Common.{◌++◌, map, ap, ◌∙◌}
use Rattle.regex_meaning.specs.CharacterClasses.{single_code_point_interval}
use Rattle.regex_pattern_front.specs.Intervals.{interval_of}
use Rattle.regex_parser.specs.CaseVariantContracts.{matching_seconds, is_between}
use Rattle.regex_parser.proofs.ClassReaderLemmas.{ok-on}
use Rattle.regex_parser.proofs.CaseVariantsOfIntervals.{chosen-added}
use Rattle.regex_parser.proofs.case_variants.add_variants_of_interval.Goals as goal

pub returns : goal.returns
returns c =
    ok-on _ c.add_each.result c.add_each.ensures
    (λ e. chosen-added c.args.unicode (is_between c.args.interval.first c.args.interval.last) c.args.intervals.now.items c.add_each.new.intervals.items
    (e ∙ ap (λ xs. map interval_of c.args.intervals.now.items ++ map single_code_point_interval xs)
    (c.deref.ensures.value ∙ c.in_ok-others.ensures ∙ ap (matching_seconds c.args.unicode) c.fold_pairs_between-pairs.ensures)))
