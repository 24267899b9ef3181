use Rattle.std.proofs.Common.{◌≡◌, ◌≤◌, ◌-◌, true}
use Rattle.regress_program.specs.PrefixesAndPrefilters.{units_allowed_by_prefix, prefix_allows_units_at}
use Rattle.regress_search.proofs.prefix_search.prefix_units_fit_in_range.Given as goal

abbrev pub invariant-units : goal.invariant-units
invariant-units l = (l.ahead ≤ l.to) × (prefix_allows_units_at (units_allowed_by_prefix l.prefix) l.bytes l.at l.ahead ≡ true)

abbrev pub decreases-units : goal.decreases-units
decreases-units l = l.to - l.ahead
