use Rattle.std.proofs.Common.{◌≡◌, ◌≤◌, ◌-◌, ℕ}
use Rattle.use_grep.specs.Nearby.{IsIncreasing, is_near, near}
use Rattle.use_grep.proofs.context.near.Given as goal

abbrev pub invariant-loop-number : goal.invariant-loop-number
invariant-loop-number l = record {
  from : l.fn.first ≤ l.number;
  within : l.number - l.fn.first ≤ l.fn.end - l.fn.first;
  done : IsIncreasing l.fn.selected → l.numbers.items ≡ near l.fn.before l.fn.after l.fn.selected l.fn.first (l.number - l.fn.first);
  same : (before n : ℕ) → l.number ≤ n → is_near before l.fn.after l.fn.selected n ≡ is_near before l.fn.after l.left n;
  in_order : IsIncreasing l.fn.selected → IsIncreasing l.left;
}
