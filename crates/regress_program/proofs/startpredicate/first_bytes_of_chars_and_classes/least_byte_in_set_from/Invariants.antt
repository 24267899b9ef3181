use Rattle.std.proofs.Common.{◌≡◌}
use Rattle.regex_pattern_front.specs.ByteSetMembers.{member_bytes_of_byte_bitmap}
use Rattle.regress_program.specs.JoinedStarts.{set_bytes_from}
use Rattle.regress_program.proofs.startpredicate.first_bytes_of_chars_and_classes.least_byte_in_set_from.Given as goal

abbrev pub invariant-loop-number : goal.invariant-loop-number
invariant-loop-number l = set_bytes_from (member_bytes_of_byte_bitmap l.set) l.fn.from ≡ set_bytes_from (member_bytes_of_byte_bitmap l.set) l.number
