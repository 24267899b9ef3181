use Rattle.std.proofs.Common.{◌≡◌, ◌≤◌, ◌-◌, true}
use Rattle.regress_program.specs.PrefixesAndPrefilters.{units_allowed_by_prefix, prefix_allows_units_at}
use Rattle.regress_search.specs.StartSearch.{unit_keys_of_text}
use Rattle.regress_search.proofs.start_search_by_bit_probes.prefix_fits_at_offset.Given as goal

abbrev pub invariant-units : goal.invariant-units
invariant-units g l =
    (l.ahead ≤ l.prefix.len)
    × (prefix_allows_units_at (units_allowed_by_prefix l.prefix) (unit_keys_of_text (g.W.SearchContext.searching l.context)) l.at l.ahead ≡ true)

abbrev pub decreases-units : goal.decreases-units
decreases-units g l = l.prefix.len - l.ahead
