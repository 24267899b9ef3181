use Rattle.std.proofs.Common.{◌∙◌, ap, false, get_or, map}
use Rattle.regex_pattern_front.specs.ByteSetMembers.{member_bytes_of_byte_bitmap}
use Rattle.regex_pattern_front.specs.Intervals.{interval_of}
use Rattle.regress_program.proofs.ByteSetLemmas.{with_first_bytes, first_bytes-next, first_bytes-end}
use Rattle.regress_program.proofs.startpredicate.first_bytes_of_chars_and_classes.first_bytes_of_intervals.Goals as goal

pub loop-interval-init : goal.loop-interval-init
loop-interval-init c = ap (λ s. with_first_bytes s (map interval_of c.args.intervals.now)) c.default-set.ensures

pub loop-interval-preserved : goal.loop-interval-preserved
loop-interval-preserved c =
    first_bytes-next interval_of (member_bytes_of_byte_bitmap c.loop-interval.set) (member_bytes_of_byte_bitmap c.add_utf8_first_bytes_to_bitmap.new.bitmap) c.args.intervals.now c.loop-interval.interval-index (record { first = 0; last = 0 }) c.loop-interval-test.true c.add_utf8_first_bytes_to_bitmap.ensures
    ∙ c.loop-interval.invariant

pub returns : goal.returns
returns c = first_bytes-end interval_of (λ b. get_or c.loop-interval.set.table b false) c.args.intervals.now c.loop-interval.interval-index c.loop-interval-test.false ∙ c.loop-interval.invariant
