-- A search for candidate starts reads units below 128, which are their own keys.
use Rattle.std.proofs.Common.{◌≡◌, ℕ, ◌+◌, ◌<◌, Bool, true, false, Some, ap, sym, ◌∙◌, arith, slice_get}
use Rattle.std.specs.Prelude.{option_map}
use Rattle.std.proofs.lemmas.Option.{slice_get_within}
use Rattle.regex_meaning.specs.CodeUnits.{text_units_in_encoding}
use Rattle.regress_input.proofs.UnitsAtBoundaries.{units-length}
use Rattle.regress_machine.specs.FirstSetTables.{AllowedNextKeys, HasUnitsForTables, unit_key_at}
use Rattle.regress_program.specs.TableKeysOfUnits.{key, is_16_bit_encoding}
use Rattle.regress_search.specs.StartSearch.{AllowsOnlyLeadBytes, IsFirstAllowedBoundary}
use Rattle.regress_search.specs.TreePlanAndText.{SearchInput}
use Rattle.regress_search.proofs.AsciiUnitLemmas.{key-of-low}
use Rattle.regress_search.proofs.StartSearchLemmas.{Scans, scan-goes, scan-finds}
use Rattle.regress_search.proofs.WordLemmas.{low-behind}

-- A unit below 128 is its own key.
pub low-unit-key : (w : SearchInput) (at u : ℕ) → slice_get (text_units_in_encoding w.encoding w.text) at ≡ Some u → u < 128
    → unit_key_at w.encoding (key (is_16_bit_encoding w.encoding)) w.text at ≡ Some u
low-unit-key w at u there low =
    ap (option_map (key (is_16_bit_encoding w.encoding))) there ∙ ap Some (key-of-low (is_16_bit_encoding w.encoding) u low)

module _ (w : SearchInput) (has : HasUnitsForTables w.encoding w.text) (table : AllowedNextKeys) (from at u : ℕ)
    (there : slice_get (text_units_in_encoding w.encoding w.text) at ≡ Some u) (low : u < 128) where
  low-key : unit_key_at w.encoding (key (is_16_bit_encoding w.encoding)) w.text at ≡ Some u
  low-key = low-unit-key w at u there low

  -- If the table excludes the unit, the search goes on behind it.
  pub low-goes : (is : Bool) → Scans w table from at → is ≡ table.keys u → is ≡ false → Scans w table from (at + 1)
  low-goes is s asked excluded =
      let within = slice_get_within (text_units_in_encoding w.encoding w.text) at u there in
      scan-goes w table from at (at + 1) u s
      (record {
        ahead = omega arith;
        inside = omega (arith, within, units-length w.encoding w.text has.spelled);
        alone = λ x on less more. absurd (omega (arith, less, more));
        boundary = λ wide. low-behind w.encoding w.text has at u there low;
      })
      low-key (sym asked ∙ excluded)

  -- If the table allows the unit, its offset is the first that is allowed.
  pub low-finds : (is : Bool) → AllowsOnlyLeadBytes (is_16_bit_encoding w.encoding) table → Scans w table from at → is ≡ table.keys u → is ≡ true → IsFirstAllowedBoundary w table from (Some at)
  low-finds is leads s asked allowed = scan-finds w table from has at u is leads s low-key (omega (arith, low)) asked allowed
