use Rattle.std.proofs.Common.{map, take}
use Rattle.regex_meaning.specs.Outcomes.{in_intervals}
use Rattle.regex_pattern_front.specs.Intervals.{interval_of}
use Rattle.regex_parser.specs.CaseVariantContracts.{AddsMatchingWithin}
use Rattle.regex_parser.proofs.case_variants.add_nonmembers_that_match.Given as goal

abbrev pub invariant-loop-gap : goal.invariant-loop-gap
invariant-loop-gap l = AddsMatchingWithin l.unicode (in_intervals l.set) (in_intervals (take l.gap-index (map interval_of l.gap-items))) l.fn.intervals.items l.intervals.items
