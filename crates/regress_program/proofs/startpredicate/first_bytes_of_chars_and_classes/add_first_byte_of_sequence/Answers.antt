use Rattle.std.proofs.Common.{sym, false, get_or}
use Rattle.regex_pattern_front.specs.ByteSetMembers.{member_bytes_of_byte_bitmap}
use Rattle.regress_program.proofs.ByteSetLemmas.{union-no_first, union-first}
use Rattle.regress_program.proofs.startpredicate.first_bytes_of_chars_and_classes.add_first_byte_of_sequence.Goals as goal

pub returns-in_default : goal.returns-in_default
returns-in_default c = union-no_first (λ b. get_or c.args.set.now.table b false) c.args.bytes.now (sym c.in_default.ensures.value)

pub returns-in-Some : goal.returns-in-Some
returns-in-Some c = union-first (member_bytes_of_byte_bitmap c.args.set.now) (member_bytes_of_byte_bitmap c.set.new.self) c.args.bytes.now c.in-Some.byte.now (sym c.in-Some.ensures.value) c.set.ensures
