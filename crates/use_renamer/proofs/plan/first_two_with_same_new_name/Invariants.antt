use Rattle.std.proofs.Common.{◌≡◌, length, string_bytes}
use Rattle.use_renamer.specs.Names.{all_differ}
use Rattle.use_renamer.proofs.plan.first_two_with_same_new_name.Given as goal

abbrev pub invariant-loop-first : goal.invariant-loop-first
invariant-loop-first l = all_differ (λ r. string_bytes r.to) l.left ≡ all_differ (λ r. string_bytes r.to) l.fn.renames

abbrev pub decreases-loop-first : goal.decreases-loop-first
decreases-loop-first l = length l.left
