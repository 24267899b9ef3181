use Rattle.std.proofs.Common.{◌≡◌, ℕ, ◌+◌, Bool, ◌∷◌, [], false, get_or, sym, ◌∙◌, inl, inr, arith}
use Rattle.regex_meaning.specs.StartPredicate.{chars_with_first_byte, intersects}
use Rattle.regex_pattern_front.specs.ByteSetMembers.{member_bytes_of_byte_bitmap}
use Rattle.regex_pattern_front.specs.Intervals.{interval_of}
use Rattle.regex_pattern_front.proofs.ByteSetAdditionLoop.{with_bytes_below, with_bytes-from, with_bytes-more, with_bytes-same, with_bytes-to}
use Rattle.regex_pattern_front.proofs.FirstByteLemmas.{none-outside}
use Rattle.regex_pattern_front.proofs.folding_and_first_bytes.add_utf8_first_bytes_to_bitmap.Goals as goal
use Rattle.regex_pattern_front.proofs.folding_and_first_bytes.add_utf8_first_bytes_to_bitmap.Goals.{then-is_first_byte_of_char_in_interval, else-is_first_byte_of_char_in_interval}

pub loop-byte-init : goal.loop-byte-init
loop-byte-init c =
    with_bytes-from (λ b. get_or c.args.bitmap.now.table b false) _ _
    (λ b below. none-outside c.args.interval.first c.args.interval.last _ _ _ _ c.min.ensures c.min-2.ensures (c.utf8_first_byte-least.ensures.begins (omega arith)) (c.utf8_first_byte-greatest.ensures.begins (omega arith)) b (inl below))

pub loop-byte-preserved : goal.loop-byte-preserved
loop-byte-preserved c =
    let test : ℕ → Bool = λ b. intersects (chars_with_first_byte b) (interval_of c.args.interval ∷ []) in
    let old = member_bytes_of_byte_bitmap c.args.bitmap.now in
    let now = member_bytes_of_byte_bitmap c.loop-byte.bitmap in
    elim c.if-is_first_byte_of_char_in_interval.branch [
      | then-is_first_byte_of_char_in_interval w ↦ with_bytes-more old now _ test c.loop-byte.byte (sym c.is_first_byte_of_char_in_interval.ensures ∙ w.if-is_first_byte_of_char_in_interval.true) c.loop-byte.invariant (rw w.bitmap-is w.set.ensures)
      | else-is_first_byte_of_char_in_interval w ↦ rw w.bitmap-is (with_bytes-same old now test c.loop-byte.byte (sym c.is_first_byte_of_char_in_interval.ensures ∙ w.if-is_first_byte_of_char_in_interval.false) c.loop-byte.invariant)
    ]

pub returns : goal.returns
returns c =
    c.loop-byte.invariant ∙ with_bytes-to (member_bytes_of_byte_bitmap c.args.bitmap.now) (λ b. intersects (chars_with_first_byte b) (interval_of c.args.interval ∷ [])) c.loop-byte.byte
    (λ b above h. none-outside c.args.interval.first c.args.interval.last _ _ _ _ c.min.ensures c.min-2.ensures (c.utf8_first_byte-least.ensures.begins (omega arith)) (c.utf8_first_byte-greatest.ensures.begins (omega arith)) b (inr (omega arith)))

pub returns-after-is_first_byte_of_char_in_interval : goal.returns-after-is_first_byte_of_char_in_interval
returns-after-is_first_byte_of_char_in_interval c =
    let test : ℕ → Bool = λ b. intersects (chars_with_first_byte b) (interval_of c.args.interval ∷ []) in
    let old = member_bytes_of_byte_bitmap c.args.bitmap.now in
    let now = member_bytes_of_byte_bitmap c.loop-byte.bitmap in
    let next = member_bytes_of_byte_bitmap c.if-is_first_byte_of_char_in_interval.bitmap in
    let added : next ≡ with_bytes_below old test (c.loop-byte.byte + 1) = elim c.if-is_first_byte_of_char_in_interval.branch [
      | then-is_first_byte_of_char_in_interval w ↦ with_bytes-more old now next test c.loop-byte.byte (sym c.is_first_byte_of_char_in_interval.ensures ∙ w.if-is_first_byte_of_char_in_interval.true) c.loop-byte.invariant (rw w.bitmap-is w.set.ensures)
      | else-is_first_byte_of_char_in_interval w ↦ rw w.bitmap-is (with_bytes-same old now test c.loop-byte.byte (sym c.is_first_byte_of_char_in_interval.ensures ∙ w.if-is_first_byte_of_char_in_interval.false) c.loop-byte.invariant)
    ] in
    added ∙ with_bytes-to old test (c.loop-byte.byte + 1)
    (λ b above h. none-outside c.args.interval.first c.args.interval.last _ _ _ _ c.min.ensures c.min-2.ensures (c.utf8_first_byte-least.ensures.begins (omega arith)) (c.utf8_first_byte-greatest.ensures.begins (omega arith)) b (inr (omega arith)))
