use Rattle.std.proofs.Common.{◌≡◌, ◌≤◌, ◌<◌, ◌+◌, ◌-◌, ℕ, false, length}
use Rattle.regress_program.specs.PrefixesAndPrefilters.{units_allowed_by_prefix, prefix_allows_units_at}
use Rattle.regress_search.proofs.prefix_search.find_prefix_by_literal.Given as goal

abbrev pub invariant-places : goal.invariant-places
invariant-places l = (l.at ≤ length l.bytes + 1) × ((k : ℕ) → k < l.at → prefix_allows_units_at (units_allowed_by_prefix l.prefix) l.bytes k l.prefix.len ≡ false)

abbrev pub decreases-places : goal.decreases-places
decreases-places l = length l.bytes + 1 - l.at
