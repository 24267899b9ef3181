use Rattle.std.proofs.Common.{drop}
use Rattle.regex_pattern_front.proofs.IntervalLemmas.{Apart}
use Rattle.regex_pattern_front.proofs.codepointset.are_canonical.Given as goal

abbrev pub invariant-loop-interval : goal.invariant-loop-interval
invariant-loop-interval l = Apart l.least (drop l.interval-index l.intervals) → Apart 0 l.intervals
