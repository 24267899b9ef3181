use Rattle.std.proofs.Common.{◌≡◌, filter, take}
use Rattle.regex_pattern_front.specs.Intervals.{is_interval_nonempty}
use Rattle.regex_pattern_front.proofs.codepointset.holding.Given as goal

abbrev pub invariant-loop-interval : goal.invariant-loop-interval
invariant-loop-interval l = l.holding.items ≡ filter is_interval_nonempty (take l.interval-index l.intervals)
