use Rattle.std.proofs.Common.{◌≡◌, ◌++◌, drop}
use Rattle.regex_pattern_front.specs.Intervals.{gaps_between_intervals}
use Rattle.regex_pattern_front.proofs.codepointset.gaps_between_intervals.Given as goal

abbrev pub invariant-loop-interval : goal.invariant-loop-interval
invariant-loop-interval l = l.gaps.items ++ gaps_between_intervals l.next (drop l.interval-index l.intervals) ≡ gaps_between_intervals 0 l.intervals
