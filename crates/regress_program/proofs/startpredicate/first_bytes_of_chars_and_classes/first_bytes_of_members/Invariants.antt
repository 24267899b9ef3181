use Rattle.std.proofs.Common.{◌≡◌, drop, map}
use Rattle.regex_meaning.specs.StartPredicate.{first_bytes}
use Rattle.regex_pattern_front.specs.ByteSetMembers.{member_bytes_of_byte_bitmap}
use Rattle.regress_program.proofs.ByteSetLemmas.{with_first_bytes}
use Rattle.regress_program.proofs.startpredicate.first_bytes_of_chars_and_classes.first_bytes_of_members.Given as goal

abbrev pub invariant-loop-c : goal.invariant-loop-c
invariant-loop-c l = with_first_bytes (member_bytes_of_byte_bitmap l.set) (map (λ c. (c, c)) (drop l.c-index l.members)) ≡ first_bytes (map (λ c. (c, c)) l.members)
