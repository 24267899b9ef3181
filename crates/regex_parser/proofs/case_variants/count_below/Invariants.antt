use Rattle.std.proofs.Common.{◌-◌, ◌<◌, ◌≤◌, length}
use Rattle.std.specs.List.{AllWithin}
use Rattle.regex_parser.proofs.case_variants.count_below.Given as goal

abbrev pub invariant-loop-low : goal.invariant-loop-low
invariant-loop-low l =
    (l.low ≤ l.high) × (l.high ≤ length l.pairs) × AllWithin (λ p. p.0 < l.bound) l.pairs 0 l.low × AllWithin (λ p. l.bound ≤ p.0) l.pairs l.high (length l.pairs)

abbrev pub decreases-loop-low : goal.decreases-loop-low
decreases-loop-low l = l.high - l.low
