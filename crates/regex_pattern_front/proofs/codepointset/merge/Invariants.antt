use Rattle.std.proofs.Common.{◌≡◌, ◌++◌, drop}
use Rattle.regex_pattern_front.specs.Intervals.{merged_intervals}
use Rattle.regex_pattern_front.proofs.codepointset.merge.Given as goal

abbrev pub invariant-loop-next : goal.invariant-loop-next
invariant-loop-next l = l.intervals.items ++ merged_intervals l.current (drop l.next-index l.others) ≡ merged_intervals l.fn.first l.others
