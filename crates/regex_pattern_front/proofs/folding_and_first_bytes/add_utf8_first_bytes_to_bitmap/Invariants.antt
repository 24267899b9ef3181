use Rattle.std.proofs.Common.{◌≡◌, ◌∷◌, []}
use Rattle.regex_meaning.specs.StartPredicate.{chars_with_first_byte, intersects}
use Rattle.regex_pattern_front.specs.ByteSetMembers.{member_bytes_of_byte_bitmap}
use Rattle.regex_pattern_front.specs.Intervals.{interval_of}
use Rattle.regex_pattern_front.proofs.ByteSetAdditionLoop.{with_bytes_below}
use Rattle.regex_pattern_front.proofs.folding_and_first_bytes.add_utf8_first_bytes_to_bitmap.Given as goal

abbrev pub invariant-loop-byte : goal.invariant-loop-byte
invariant-loop-byte l =
    member_bytes_of_byte_bitmap l.bitmap ≡ with_bytes_below (member_bytes_of_byte_bitmap l.initial.bitmap) (λ b. intersects (chars_with_first_byte b) (interval_of l.interval ∷ [])) l.byte
