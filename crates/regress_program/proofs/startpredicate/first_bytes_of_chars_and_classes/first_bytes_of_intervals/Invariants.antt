use Rattle.std.proofs.Common.{◌≡◌, drop, map}
use Rattle.regex_meaning.specs.StartPredicate.{first_bytes}
use Rattle.regex_pattern_front.specs.ByteSetMembers.{member_bytes_of_byte_bitmap}
use Rattle.regex_pattern_front.specs.Intervals.{interval_of}
use Rattle.regress_program.proofs.ByteSetLemmas.{with_first_bytes}
use Rattle.regress_program.proofs.startpredicate.first_bytes_of_chars_and_classes.first_bytes_of_intervals.Given as goal

abbrev pub invariant-loop-interval : goal.invariant-loop-interval
invariant-loop-interval l = with_first_bytes (member_bytes_of_byte_bitmap l.set) (map interval_of (drop l.interval-index l.intervals)) ≡ first_bytes (map interval_of l.intervals)
