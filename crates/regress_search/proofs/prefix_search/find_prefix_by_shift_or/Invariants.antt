use Rattle.std.proofs.Common.{◌≡◌, ◌≤◌, ◌+◌, ◌-◌, ℕ, false, length, slice_index}
use Rattle.std.specs.Int.{bit_at}
use Rattle.memchr.proofs.lemmas.ShiftLemmas.{IsState}
use Rattle.regress_program.specs.PrefixesAndPrefilters.{units_allowed_by_prefix, prefix_allows_units_at}
use Rattle.regress_search.proofs.prefix_search.find_prefix_by_shift_or.Given as goal

abbrev pub invariant-units : goal.invariant-units
invariant-units l =
    IsState (λ t b. bit_at (slice_index l.prefix.masks b) t ≡ 0) (slice_index l.bytes) l.prefix.len l.at l.state
    × (l.at ≤ length l.bytes)
    × ((k : ℕ) → k + l.prefix.len ≤ l.at → prefix_allows_units_at (units_allowed_by_prefix l.prefix) l.bytes k l.prefix.len ≡ false)

abbrev pub decreases-units : goal.decreases-units
decreases-units l = length l.bytes - l.at
