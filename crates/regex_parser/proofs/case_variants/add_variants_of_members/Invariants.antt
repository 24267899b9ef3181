use Rattle.std.proofs.Common.{take}
use Rattle.regex_meaning.specs.Outcomes.{in_intervals}
use Rattle.regex_parser.specs.CaseVariantContracts.{AddsMatchingCharacters}
use Rattle.regex_parser.proofs.case_variants.add_variants_of_members.Given as goal

abbrev pub invariant-loop-interval : goal.invariant-loop-interval
invariant-loop-interval l = AddsMatchingCharacters l.unicode (in_intervals (take l.interval-index l.set)) l.fn.intervals.items l.intervals.items
