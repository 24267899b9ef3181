use Rattle.std.proofs.Common.{◌+◌, ◌∙◌, sym, false, get_or, arith}
use Rattle.regex_meaning.specs.NumberListHelpers.{contains}
use Rattle.regex_pattern_front.specs.ByteSetMembers.{member_bytes_of_byte_bitmap}
use Rattle.regex_pattern_front.proofs.ByteSetAdditionLoop.{with_bytes-none, with_bytes-more, with_bytes-same, with_bytes-all}
use Rattle.regress_program.proofs.startpredicate.first_bytes_of_chars_and_classes.union_byte_bitmap_into.Goals as goal
use Rattle.regress_program.proofs.startpredicate.first_bytes_of_chars_and_classes.union_byte_bitmap_into.Goals.{then-contains, else-contains}

pub loop-byte-init : goal.loop-byte-init
loop-byte-init c = with_bytes-none (λ b. get_or c.args.set.now.table b false) _

pub loop-byte-preserved : goal.loop-byte-preserved
loop-byte-preserved c =
    let test = contains (member_bytes_of_byte_bitmap c.args.other.now) in
    let now = member_bytes_of_byte_bitmap c.loop-byte.set in
    elim c.if-contains.branch [
      | then-contains w ↦ with_bytes-more _ now _ test c.loop-byte.byte (sym c.contains.ensures ∙ w.if-contains.true) c.loop-byte.invariant (rw w.set-is w.set.ensures)
      | else-contains w ↦ rw w.set-is (with_bytes-same _ now test c.loop-byte.byte (sym c.contains.ensures ∙ w.if-contains.false) c.loop-byte.invariant)
    ]

pub returns-after-contains : goal.returns-after-contains
returns-after-contains c =
    let test = contains (member_bytes_of_byte_bitmap c.args.other.now) in
    let old = member_bytes_of_byte_bitmap c.args.set.now in
    let now = member_bytes_of_byte_bitmap c.loop-byte.set in
    elim c.if-contains.branch [
      | then-contains w ↦ with_bytes-more old now (member_bytes_of_byte_bitmap c.if-contains.set) test c.loop-byte.byte (sym c.contains.ensures ∙ w.if-contains.true) c.loop-byte.invariant (rw w.set-is w.set.ensures)
          ∙ with_bytes-all old test (c.loop-byte.byte + 1) (omega arith)
      | else-contains w ↦ rw w.set-is
          (with_bytes-same old now test c.loop-byte.byte (sym c.contains.ensures ∙ w.if-contains.false) c.loop-byte.invariant
          ∙ with_bytes-all old test (c.loop-byte.byte + 1) (omega arith))
    ]
