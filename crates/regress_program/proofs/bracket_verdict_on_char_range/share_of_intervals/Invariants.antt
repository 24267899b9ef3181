use Rattle.std.proofs.Common.{ℕ, ◌<◌, ◌≤◌, get_or}
use Rattle.regress_program.proofs.RangeAcceptanceLemmas.{no_interval}
use Rattle.regress_program.proofs.bracket_verdict_on_char_range.share_of_intervals.Given as goal

abbrev pub invariant-loop-interval : goal.invariant-loop-interval
invariant-loop-interval l =
    (k : ℕ) → k < l.interval-index → (get_or l.intervals k no_interval).first ≤ l.range.last → l.range.first ≤ (get_or l.intervals k no_interval).last → ⊥
