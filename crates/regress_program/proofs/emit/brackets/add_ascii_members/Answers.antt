use Rattle.std.proofs.Common.{◌∙◌, arith}
use Rattle.std.specs.Prelude.{nat_lt, ◌&&◌}
use Rattle.std.specs.Int.{is_in_range}
use Rattle.regex_pattern_front.specs.ByteSetMembers.{member_bytes_of_ascii_bitmap, is_ascii_bit_set}
use Rattle.regex_pattern_front.proofs.ByteSetAdditionLoop.{with_bytes-from, with_bytes-more, with_bytes-to}
use Rattle.regress_program.proofs.AsciiIntervalMembers.{fails_below, fails_above, passes_between}
use Rattle.regress_program.proofs.emit.brackets.add_ascii_members.Goals as goal

pub loop-member-init : goal.loop-member-init
loop-member-init c = with_bytes-from (is_ascii_bit_set c.args.bitmap.now.bits) _ _ (fails_below c.args.interval.first c.args.interval.last)

pub loop-member-preserved : goal.loop-member-preserved
loop-member-preserved c =
    let i = c.args.interval in
    with_bytes-more (member_bytes_of_ascii_bitmap c.args.bitmap.now) (member_bytes_of_ascii_bitmap c.loop-member.bitmap) _ (λ b. nat_lt b 128 && is_in_range i.first i.last b) c.loop-member.member
    (passes_between i.first i.last c.loop-member.member (omega arith) (omega arith)) c.loop-member.invariant (c.set.ensures.added (omega arith))

pub returns : goal.returns
returns c =
    let i = c.args.interval in
    c.loop-member.invariant ∙ with_bytes-to (member_bytes_of_ascii_bitmap c.args.bitmap.now) (λ b. nat_lt b 128 && is_in_range i.first i.last b) c.loop-member.member
    (λ b above h. fails_above i.first i.last b (omega arith))
