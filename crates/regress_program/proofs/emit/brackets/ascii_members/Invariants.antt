use Rattle.std.proofs.Common.{◌≡◌, map, take}
use Rattle.std.specs.Prelude.{nat_lt, ◌&&◌}
use Rattle.regex_meaning.specs.Outcomes.{in_intervals}
use Rattle.regex_meaning.specs.StartPredicate.{bytes_that_pass}
use Rattle.regex_pattern_front.specs.ByteSetMembers.{member_bytes_of_ascii_bitmap}
use Rattle.regex_pattern_front.specs.Intervals.{interval_of}
use Rattle.regress_program.proofs.emit.brackets.ascii_members.Given as goal

abbrev pub invariant-loop-interval : goal.invariant-loop-interval
invariant-loop-interval l = member_bytes_of_ascii_bitmap l.bitmap ≡ bytes_that_pass (λ b. nat_lt b 128 && in_intervals (take l.interval-index (map interval_of l.intervals)) b)
