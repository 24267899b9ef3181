-- Lookbehind filters: a match may begin only after one of a few characters.
use Rattle.std.specs.Prelude.{◌≡◌, ◌<◌, ℕ, Bool, true, false, Option, option_map, slice_index_or}
use Rattle.std.specs.Option.{option_map_or}
use Rattle.regex_meaning.specs.CompilationRelation.{Program}
use Rattle.regex_meaning.specs.CodeUnitOffsets.{IsBoundary, read}
use Rattle.regex_meaning.specs.Outcomes.{is_some_and}
use Rattle.regex_meaning.specs.Text.{Text, rightwards, leftwards}
use Rattle.regex_meaning.specs.CodeUnits.{Encoding}
use Rattle.regress_machine.specs.Machine.{State, running}
use Rattle.regress_machine.specs.ThreadSimulation.{FindsNothing}
use Rattle.regress_machine.specs.FirstSetTables.{HasUnitsForTables, unit_key_at}
use Rattle.regress_program.specs.declared.lookbehind_filter.PrecedingCharFilter.{PrecedingCharFilter}
use Rattle.regress_program.specs.ListedUnits.{is_listed}
use Rattle.regress_program.specs.TableKeysOfUnits.{key, is_16_bit_encoding, begins_utf8_character}

-- The offset at which the character before `at` begins; `None` at the left end.
abbrev pub offset_of_previous_char : Text → (at : ℕ) → Option ℕ
offset_of_previous_char text at = option_map (λ r. r.1) (read text leftwards at)

-- Whether the unit at an offset has one of the keys of the filter.
abbrev pub unit_at_has_filter_key : Encoding → PrecedingCharFilter → Text → (at : ℕ) → Bool
unit_at_has_filter_key e before text at =
    is_some_and (unit_key_at e (key (is_16_bit_encoding e)) text at) (is_listed before.keys)

-- Whether the filter allows a match to begin at an offset.
abbrev pub allows_start : Encoding → PrecedingCharFilter → Text → (at : ℕ) → Bool
allows_start e before text at =
    option_map_or (unit_at_has_filter_key e before text) (offset_of_previous_char text at) before.edge

-- For texts in bytes, all keys of the filter are lead bytes.
abbrev pub FilterKeysAreLeadBytes : (wide : Bool) → PrecedingCharFilter → Type 0
FilterKeysAreLeadBytes wide before = wide ≡ false → (i : ℕ) → i < before.keys.len
    → begins_utf8_character (slice_index_or before.keys.units i 0) ≡ true

-- No match begins at an offset that the filter does not allow.
pub record IsLookbehindFilter (wide : Bool) (program : Program) (before : PrecedingCharFilter) : Type 0 where
  pub leads : FilterKeysAreLeadBytes wide before
  pub excludes : (e : Encoding) → is_16_bit_encoding e ≡ wide → (text : Text) → HasUnitsForTables e text → (s : State)
      → s.ip ≡ 0 → IsBoundary text s.pos
      → allows_start e before text s.pos ≡ false → FindsNothing program text rightwards (running s)
