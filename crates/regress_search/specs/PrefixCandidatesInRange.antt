-- Offsets in a range where a prefix may occur.
use Rattle.std.specs.Prelude.{ℕ, Option}
use Rattle.regress_program.specs.declared.required_prefix_types.Prefix.{Prefix}
use Rattle.regress_search.specs.TreePlanAndText.{SearchInput}
use Rattle.regress_search.specs.StartSearch.{prefix_fits_at}
use Rattle.regress_search.specs.MarkedOffsets.{TestFailsThroughoutRange, IsFirstPassingOffset}

-- The prefix may occur at no offset that is `from` or more and less than `to`.
abbrev pub NoPrefixFitsBetween : SearchInput → Prefix → (from to : ℕ) → Type 0
NoPrefixFitsBetween w prefix from to = TestFailsThroughoutRange (prefix_fits_at w prefix) from to

-- The first offset in `from..to` where the prefix may occur. `None` if there is none.
abbrev pub IsFirstPrefixFitInRange : SearchInput → Prefix → (from to : ℕ) → Option ℕ → Type 0
IsFirstPrefixFitInRange w prefix from to next = IsFirstPassingOffset (prefix_fits_at w prefix) from to next
