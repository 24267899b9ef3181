use Rattle.std.proofs.Common.{◌∙◌, sym, arith}
use Rattle.regex_pattern_front.specs.ByteSetMembers.{member_bytes_of_byte_bitmap}
use Rattle.regress_program.proofs.ByteSetLemmas.{bytes_from-next, bytes_from-skip, bytes_from-end}
use Rattle.regress_program.proofs.startpredicate.first_bytes_of_chars_and_classes.least_byte_in_set_from.Goals as goal

pub returns-then-contains : goal.returns-then-contains
returns-then-contains c =
    c.loop-number.invariant ∙ bytes_from-next (member_bytes_of_byte_bitmap c.args.set.now) c.loop-number.number (omega arith) (sym c.contains.ensures ∙ c.if-contains.true)

pub loop-number-preserved : goal.loop-number-preserved
loop-number-preserved c =
    c.loop-number.invariant ∙ bytes_from-skip (member_bytes_of_byte_bitmap c.args.set.now) c.loop-number.number (omega arith) (sym c.contains.ensures ∙ c.if-contains.false)

pub returns : goal.returns
returns c = c.loop-number.invariant ∙ bytes_from-end (member_bytes_of_byte_bitmap c.args.set.now) c.loop-number.number (omega arith)
