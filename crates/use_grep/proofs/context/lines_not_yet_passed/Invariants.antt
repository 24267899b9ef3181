use Rattle.std.proofs.Common.{◌≡◌, ◌≤◌, ℕ, length}
use Rattle.use_grep.specs.Nearby.{IsIncreasing, is_near}
use Rattle.use_grep.proofs.context.lines_not_yet_passed.Given as goal

abbrev pub invariant-loop-left : goal.invariant-loop-left
invariant-loop-left l =
    ((before n : ℕ) → l.fn.number ≤ n → is_near before l.fn.after l.fn.selected n ≡ is_near before l.fn.after l.left n)
    × (IsIncreasing l.fn.selected → IsIncreasing l.left)

abbrev pub decreases-loop-left : goal.decreases-loop-left
decreases-loop-left l = length l.left
