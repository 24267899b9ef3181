use Rattle.std.proofs.Common.{◌∙◌, sym, ap, false, get_or}
use Rattle.std.proofs.lemmas.List.{drop_all}
use Rattle.regex_meaning.specs.StartPredicate.{union_of_byte_sets}
use Rattle.regex_pattern_front.specs.ByteSetMembers.{member_bytes_of_byte_bitmap}
use Rattle.regress_program.proofs.ByteSetLemmas.{union-none, union-next}
use Rattle.regress_program.proofs.startpredicate.first_bytes_of_chars_and_classes.bitmap_of_bytes.Goals as goal

-- Before the loop, the set is empty, and the union with all bytes is still to be made.
pub loop-byte-init : goal.loop-byte-init
loop-byte-init c = ap (λ s. union_of_byte_sets s c.args.bytes.now) c.default-set.ensures

pub loop-byte-preserved : goal.loop-byte-preserved
loop-byte-preserved c =
    union-next (member_bytes_of_byte_bitmap c.loop-byte.set) (member_bytes_of_byte_bitmap c.set.new.self) c.args.bytes.now c.loop-byte.byte-index c.loop-byte-test.true c.set.ensures
    ∙ c.loop-byte.invariant

pub returns : goal.returns
returns c =
    sym (union-none (λ b. get_or c.loop-byte.set.table b false))
    ∙ ap (union_of_byte_sets (member_bytes_of_byte_bitmap c.loop-byte.set)) (sym (drop_all c.loop-byte.byte-index c.args.bytes.now c.loop-byte-test.false))
    ∙ c.loop-byte.invariant
