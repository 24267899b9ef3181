use Rattle.std.proofs.Common.{◌≡◌, drop}
use Rattle.regex_meaning.specs.NumberListHelpers.{contains}
use Rattle.regex_meaning.specs.StartPredicate.{bytes_that_pass, union_of_byte_sets}
use Rattle.regex_pattern_front.specs.ByteSetMembers.{member_bytes_of_byte_bitmap}
use Rattle.regress_program.proofs.startpredicate.first_bytes_of_chars_and_classes.bitmap_of_bytes.Given as goal

abbrev pub invariant-loop-byte : goal.invariant-loop-byte
invariant-loop-byte l = union_of_byte_sets (member_bytes_of_byte_bitmap l.set) (drop l.byte-index l.bytes) ≡ bytes_that_pass (contains l.bytes)
