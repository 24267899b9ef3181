use Rattle.std.proofs.Common.{◌≡◌}
use Rattle.std.specs.Prelude.{nat_lt, ◌&&◌}
use Rattle.std.specs.Int.{is_in_range}
use Rattle.regex_pattern_front.specs.ByteSetMembers.{member_bytes_of_ascii_bitmap}
use Rattle.regex_pattern_front.proofs.ByteSetAdditionLoop.{with_bytes_below}
use Rattle.regress_program.proofs.emit.brackets.add_ascii_members.Given as goal

abbrev pub invariant-loop-member : goal.invariant-loop-member
invariant-loop-member l =
    member_bytes_of_ascii_bitmap l.bitmap ≡ with_bytes_below (member_bytes_of_ascii_bitmap l.initial.bitmap) (λ b. nat_lt b 128 && is_in_range l.fn.interval.first l.fn.interval.last b) l.member
