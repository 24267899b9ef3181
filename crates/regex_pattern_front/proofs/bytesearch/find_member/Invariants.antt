use Rattle.std.proofs.Common.{◌≡◌, ℕ, ◌-◌, ◌<◌, false, length}
use Rattle.regex_pattern_front.specs.FirstPassingIndex.{is_member_byte_at_index}
use Rattle.regex_pattern_front.proofs.bytesearch.find_member.Given as goal

abbrev pub invariant-loop-at : goal.invariant-loop-at
invariant-loop-at g l = (k : ℕ) → k < l.at → is_member_byte_at_index (g.S.ByteSet.members l.set) l.bytes k ≡ false

abbrev pub decreases-loop-at : goal.decreases-loop-at
decreases-loop-at g l = length l.bytes - l.at
