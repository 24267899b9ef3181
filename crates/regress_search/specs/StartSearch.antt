-- Offsets that a table allows, and candidate starts: the offsets where a match may begin.
use Rattle.std.specs.Prelude.{◌≡◌, ◌⊎◌, ◌≤◌, ◌<◌, ℕ, ◌+◌, Bool, true, false, List, map, Option, Some, None}
use Rattle.regress_program.specs.ListedUnits.{is_listed}
use Rattle.regress_program.specs.declared.up_to_three_units.UpToThreeUnits.{UpToThreeUnits}
use Rattle.regex_meaning.specs.Text.{Text, rightwards}
use Rattle.regex_meaning.specs.CodeUnitOffsets.{IsBoundary, units}
use Rattle.regex_meaning.specs.CodeUnits.{text_units_in_encoding}
use Rattle.regress_input.specs.CharAndByteReadsFromOffset.{past, bytes_of, is_byte_encoding, IsFirstOccurrenceFrom}
use Rattle.regress_program.specs.LookbehindFilter.{allows_start}
use Rattle.regress_program.specs.declared.required_prefix_types.Prefix.{Prefix}
use Rattle.regress_program.specs.declared.plan.CandidateStarts.{CandidateStarts}
use Rattle.regress_program.specs.declared.plan.CandidateStarts.TheVariants as variant
use Rattle.regress_program.specs.PrefixesAndPrefilters.{units_allowed_by_prefix, prefix_allows_units_at}
use Rattle.regress_program.specs.TableKeysOfUnits.{key, is_16_bit_encoding, begins_utf8_character}
use Rattle.regress_program.specs.Plans.{units_at_candidate_starts}
use Rattle.regress_machine.specs.FirstSetTables.{AllowedNextKeys, table_allows_key_or_end, unit_key_at}
use Rattle.regress_search.specs.TreePlanAndText.{SearchInput}
use Rattle.regress_search.specs.declared.start_search.FirstUnitsSearch.{FirstUnitsSearch}
use Rattle.regress_search.specs.declared.start_search.FirstUnitsSearch.TheVariants as search

-- Whether the table allows the code unit at an offset, or the end of the text if the offset is the
-- end.
abbrev pub table_allows_unit_or_end_at : SearchInput → AllowedNextKeys → (at : ℕ) → Bool
table_allows_unit_or_end_at w table at =
    table_allows_key_or_end table (unit_key_at w.encoding (key (is_16_bit_encoding w.encoding)) w.text at)

-- The test fails at each boundary that is `from` or more and less than `to`.
abbrev pub NoBoundaryWhere : SearchInput → (test : ℕ → Bool) → (from to : ℕ) → Type 0
NoBoundaryWhere w test from to = (at : ℕ) → IsBoundary w.text at → from ≤ at → at < to → test at ≡ false

-- The first boundary at `from` or later where the test passes. `None` if there is none.
abbrev pub IsFirstBoundaryWhere : SearchInput → (test : ℕ → Bool) → (from : ℕ) → Option ℕ → Type 0
IsFirstBoundaryWhere w test from None = NoBoundaryWhere w test from (units w.text + 1)
IsFirstBoundaryWhere w test from (Some to) = IsBoundary w.text to × (from ≤ to) × (test to ≡ true)
    × NoBoundaryWhere w test from to

-- The table excludes each boundary that is `from` or more and less than `to`.
abbrev pub TableAllowsNoBoundary : SearchInput → AllowedNextKeys → (from to : ℕ) → Type 0
TableAllowsNoBoundary w table from to = NoBoundaryWhere w (λ at. table_allows_unit_or_end_at w table at) from to

-- The first boundary at `from` or later where the table allows the code unit or the end of the
-- text.
abbrev pub IsFirstAllowedBoundary : SearchInput → AllowedNextKeys → (from : ℕ) → Option ℕ → Type 0
IsFirstAllowedBoundary w table from next =
    IsFirstBoundaryWhere w (λ at. table_allows_unit_or_end_at w table at) from next

-- The first offset at `from` or later where the searcher finds its bytes. `None` if the code units
-- of the text are not bytes.
abbrev pub IsFirstByteSearchHit : SearchInput → (stands_at : List ℕ → ℕ → Bool) → (from : ℕ) → Option ℕ → Type 0
IsFirstByteSearchHit w stands_at from found =
    IsFirstOccurrenceFrom (is_byte_encoding w.encoding) stands_at (bytes_of w.text) from found

-- The first boundary at `from` or later that the table allows, or the end of the text if there is
-- none.
abbrev pub IsFirstAllowedBoundaryOrEnd : SearchInput → AllowedNextKeys → (from at : ℕ) → Type 0
IsFirstAllowedBoundaryOrEnd w table from at = IsFirstAllowedBoundary w table from (Some at)
    ⊎ (IsFirstAllowedBoundary w table from None × (at ≡ units w.text))

-- If code units are bytes, the table allows only bytes that begin a character.
abbrev pub AllowsOnlyLeadBytes : (wide : Bool) → AllowedNextKeys → Type 0
AllowsOnlyLeadBytes wide table = wide ≡ false → (k : ℕ) → k < 256 → table.keys k ≡ true → begins_utf8_character k ≡ true

-- The table that allows up to three code units.
abbrev pub table_of_listed_units : UpToThreeUnits → AllowedNextKeys
table_of_listed_units few = record { keys = is_listed few; end = false }

-- `to` is a later offset, with no boundary between `at` and `to`. If code units are not bytes, `to`
-- is a boundary.
pub record SkipsNoBoundary (text : Text) (are_bytes : Bool) (at to : ℕ) : Type 0 where
  pub ahead : at < to
  pub inside : to ≤ units text
  pub alone : (x : ℕ) → IsBoundary text x → at < x → x < to → ⊥
  pub boundary : are_bytes ≡ false → IsBoundary text to

-- The keys of the text's code units.
abbrev pub unit_keys_of_text : SearchInput → List ℕ
unit_keys_of_text w = map (key (is_16_bit_encoding w.encoding)) (text_units_in_encoding w.encoding w.text)

-- Whether each unit of the prefix may occur, from the offset `at` on.
abbrev pub prefix_fits_at : SearchInput → Prefix → (at : ℕ) → Bool
prefix_fits_at w prefix at = prefix_allows_units_at (units_allowed_by_prefix prefix) (unit_keys_of_text w) at prefix.len

-- The first boundary at `from` or later where the prefix may occur.
abbrev pub IsFirstPrefixFit : SearchInput → Prefix → (from : ℕ) → Option ℕ → Type 0
IsFirstPrefixFit w prefix from next = IsFirstBoundaryWhere w (prefix_fits_at w prefix) from next

-- The boundary `at` is `from` or more, and the prefix does not occur at a boundary in between.
pub record FitsNotBefore (w : SearchInput) (prefix : Prefix) (from at : ℕ) : Type 0 where
  pub boundary : IsBoundary w.text at
  pub ahead : from ≤ at
  pub none : NoBoundaryWhere w (prefix_fits_at w prefix) from at

-- What a search for a prefix by its first units finds: the first boundary at `from` or later where
-- the prefix may occur, that there is none, or a boundary before which there is none.
abbrev pub IsFirstUnitsSearch : SearchInput → Prefix → (from : ℕ) → FirstUnitsSearch → Type 0
IsFirstUnitsSearch w prefix from (search.Fits at) = IsFirstPrefixFit w prefix from (Some at)
IsFirstUnitsSearch w prefix from search.Nowhere = IsFirstPrefixFit w prefix from None
IsFirstUnitsSearch w prefix from (search.GaveUp at) = FitsNotBefore w prefix from at

-- The offset after the first character at `from` or later that the table allows.
abbrev pub IsPastFirstAllowedChar : SearchInput → AllowedNextKeys → (from : ℕ) → Option ℕ → Type 0
IsPastFirstAllowedChar w table from None = IsFirstAllowedBoundary w table from None
IsPastFirstAllowedChar w table from (Some to) = (hit : ℕ) × IsFirstAllowedBoundary w table from (Some hit)
    × (past w.text rightwards hit ≡ Some to)

-- Whether the offset is a candidate start of this start condition.
abbrev pub may_start_at : SearchInput → CandidateStarts → (at : ℕ) → Bool
may_start_at w (variant.Prefix prefix prefilter) at = prefix_fits_at w prefix at
may_start_at w (variant.Behind before) at = allows_start w.encoding before w.text at
may_start_at w start at = table_allows_unit_or_end_at w (units_at_candidate_starts w.plan start) at

-- The first candidate start of the plan at `from` or later.
abbrev pub IsFirstCandidate : SearchInput → (from : ℕ) → Option ℕ → Type 0
IsFirstCandidate w from next = IsFirstBoundaryWhere w (λ at. may_start_at w w.plan.start at) from next
