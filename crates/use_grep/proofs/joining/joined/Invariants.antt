use Rattle.std.proofs.Common.{◌≡◌, ◌++◌, length, map, string_bytes}
use Rattle.use_grep.specs.Joining.{alternatives}
use Rattle.use_grep.proofs.joining.joined.Given as goal

abbrev pub invariant-loop-left : goal.invariant-loop-left
invariant-loop-left l =
    string_bytes l.all ++ alternatives (map string_bytes l.left) ≡ alternatives (map string_bytes l.fn.patterns)

abbrev pub decreases-loop-left : goal.decreases-loop-left
decreases-loop-left l = length l.left
