use Rattle.std.proofs.Common.{◌≡◌, ◌+◌, length, nat_lt}
use Rattle.std.specs.List.{position_or_len}
use Rattle.use_grep.proofs.select.count_lines_before_too_long.Given as goal

abbrev pub invariant-loop-left : goal.invariant-loop-left
invariant-loop-left l =
    (l.fit + length l.left ≡ length l.fn.lines)
    × (l.fit + position_or_len (λ x. nat_lt l.longest (length x.now)) l.left ≡ position_or_len (λ x. nat_lt l.longest (length x.now)) l.fn.lines)

abbrev pub decreases-loop-left : goal.decreases-loop-left
decreases-loop-left l = length l.left
