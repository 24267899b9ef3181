use Rattle.std.proofs.Common.{◌∙◌, ℕ, ap, false, get_or, map}
use Rattle.regex_pattern_front.specs.ByteSetMembers.{member_bytes_of_byte_bitmap}
use Rattle.regress_program.proofs.ByteSetLemmas.{with_first_bytes, first_bytes-next, first_bytes-end}
use Rattle.regress_program.proofs.startpredicate.first_bytes_of_chars_and_classes.first_bytes_of_members.Goals as goal

pub loop-c-init : goal.loop-c-init
loop-c-init c = ap (λ s. with_first_bytes s (map (λ (n : ℕ). (n, n)) c.args.members.now)) c.default-set.ensures

pub loop-c-preserved : goal.loop-c-preserved
loop-c-preserved c =
    first_bytes-next (λ (n : ℕ). (n, n)) (member_bytes_of_byte_bitmap c.loop-c.set) (member_bytes_of_byte_bitmap c.add_utf8_first_bytes_to_bitmap.new.bitmap) c.args.members.now c.loop-c.c-index 0 c.loop-c-test.true c.add_utf8_first_bytes_to_bitmap.ensures
    ∙ c.loop-c.invariant

pub returns : goal.returns
returns c = first_bytes-end (λ (n : ℕ). (n, n)) (λ b. get_or c.loop-c.set.table b false) c.args.members.now c.loop-c.c-index c.loop-c-test.false ∙ c.loop-c.invariant
