use Rattle.std.proofs.Common.{◌≡◌}
use Rattle.regex_meaning.specs.NumberListHelpers.{contains}
use Rattle.regex_pattern_front.specs.ByteSetMembers.{member_bytes_of_byte_bitmap}
use Rattle.regex_pattern_front.proofs.ByteSetAdditionLoop.{with_bytes_below}
use Rattle.regress_program.proofs.startpredicate.first_bytes_of_chars_and_classes.union_byte_bitmap_into.Given as goal

abbrev pub invariant-loop-byte : goal.invariant-loop-byte
invariant-loop-byte l = member_bytes_of_byte_bitmap l.set ≡ with_bytes_below (member_bytes_of_byte_bitmap l.initial.set) (contains (member_bytes_of_byte_bitmap l.other)) l.byte
