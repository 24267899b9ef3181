use Rattle.std.proofs.Common.{◌-◌, ◌≤◌, length}
use Rattle.regex_pattern_front.proofs.IntervalLemmas.{EndBefore, BeginAfter}
use Rattle.regex_pattern_front.proofs.codepointset.contains.Given as goal

abbrev pub invariant-loop-low : goal.invariant-loop-low
invariant-loop-low l = (l.high ≤ length l.intervals) × EndBefore l.intervals l.c l.low × BeginAfter l.intervals l.c l.high

abbrev pub decreases-loop-low : goal.decreases-loop-low
decreases-loop-low l = l.high - l.low
