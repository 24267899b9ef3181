use Rattle.std.proofs.Common.{◌≡◌, ◌++◌, ◌-◌, ◌≤◌, length, take, drop}
use Rattle.regex_meaning.specs.StartPredicate.{common_prefix}
use Rattle.regress_program.proofs.startpredicate.abstract_start.common_prefix.Given as goal

abbrev pub invariant-loop-shared : goal.invariant-loop-shared
invariant-loop-shared l = record {
  within : l.shared ≤ length l.xs;
  front : take l.shared l.xs ++ common_prefix (drop l.shared l.xs) (drop l.shared l.ys) ≡ common_prefix l.xs l.ys;
}

abbrev pub decreases-loop-shared : goal.decreases-loop-shared
decreases-loop-shared l = length l.xs - l.shared
