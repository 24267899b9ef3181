use Rattle.std.proofs.Common.{◌≡◌, ◌++◌, take}
use Rattle.regex_parser.proofs.character_class_parser.append_intervals.Given as goal

abbrev pub invariant-loop-interval : goal.invariant-loop-interval
invariant-loop-interval l = l.intervals.items ≡ l.fn.intervals.items ++ take l.interval-index l.others
