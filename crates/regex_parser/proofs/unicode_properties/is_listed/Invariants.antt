use Rattle.std.proofs.Common.{◌≡◌, ◌≤◌, ◌-◌, length, drop, nat_eq}
use Rattle.std.specs.List.{list_any, slice_range}
use lib.Pointwise.{pointwise}
use Rattle.regex_parser.specs.PropertyReaderContracts.{words_of, words_from}
use Rattle.regex_parser.proofs.unicode_properties.is_listed.Given as goal

abbrev pub invariant-loop-end : goal.invariant-loop-end
invariant-loop-end l =
    (l.start ≤ l.end) × (l.end ≤ length l.words)
    × (list_any (λ word. pointwise nat_eq word l.name) (words_of l.words)
    ≡ list_any (λ word. pointwise nat_eq word l.name) (words_from (slice_range l.words l.start l.end) (drop l.end l.words)))

abbrev pub decreases-loop-end : goal.decreases-loop-end
decreases-loop-end l = length l.words - l.end
