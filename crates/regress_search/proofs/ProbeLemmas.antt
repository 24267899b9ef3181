-- A probe passes at each offset where the required prefix fits, so the offsets it rejects are no
-- candidates.
use Rattle.std.proofs.Common.{◌≡◌, ℕ, zero, suc, ◌+◌, ◌-◌, ◌%◌, ◌<◌, ◌≤◌, ◌==◌, Bool, true, false, List, [], ◌∷◌, length, Option, Some, None, refl, ap, sym, ◌∙◌, arith, slice_get, bit_and}
use Rattle.std.specs.Prelude.{slice_index}
use Rattle.std.specs.Int.{bit_at}
use Rattle.std.specs.List.{list_all}
use Rattle.std.proofs.lemmas.Grind.{and_numeral}
use Rattle.regex_meaning.proofs.BoolLemmas.{and-left, and-right}
use Rattle.std.proofs.lemmas.Bool.{cases_lt, eqb-true}
use Rattle.std.proofs.lemmas.Option.{slice_get-map, get_or_from_slice_get}
use Rattle.std.proofs.lemmas.List.{length-map}
use mathlib.Core.Logic.{inl, inr}
use Rattle.regex_meaning.specs.CodeUnitOffsets.{units}
use Rattle.regex_meaning.specs.CodeUnits.{text_units_in_encoding}
use Rattle.regex_meaning.proofs.OptionLemmas.{some-same}
use Rattle.regress_input.specs.TextCodeUnits.{has_bits, MarksUnitsWithBits}
use Rattle.regress_input.proofs.UnitsAtBoundaries.{units-length}
use Rattle.regress_machine.specs.FirstSetTables.{HasUnitsForTables, unit_key_at}
use Rattle.regress_machine.specs.RequiredPrefixes.{unit_is_allowed}
use Rattle.regress_program.specs.declared.required_prefix_types.Prefix.{Prefix}
use Rattle.regress_program.specs.declared.required_prefix_prefilters.MaskedUnitProbe.{MaskedUnitProbe}
use Rattle.regress_program.specs.PrefixesAndPrefilters.{units_allowed_by_prefix, prefix_allows_units_at, unit_passes_probe, ProbePassesPrefix, PrefixAllowsOnlyAsciiFirst}
use Rattle.regress_program.specs.TableKeysOfUnits.{key, is_16_bit_encoding}
use Rattle.regress_search.specs.TreePlanAndText.{SearchInput}
use Rattle.regress_search.specs.StartSearch.{unit_keys_of_text, prefix_fits_at, IsFirstBoundaryWhere}
use Rattle.regress_search.specs.MarkedOffsets.{MarksAllPassing}
use Rattle.regress_search.specs.PrefixCandidatesInRange.{IsFirstPrefixFitInRange}
use Rattle.regress_search.proofs.PrefixUnitLemmas.{fits-fails, fits-past, fits-more}
use Rattle.regress_search.proofs.AsciiUnitLemmas.{fit-unit, fit-boundary}

-- ---- Keys of units

module _ (w : SearchInput) where
  -- A prefix allows the unit at an offset if it allows its key.
  same-allowed : (prefix : Prefix) (at ahead : ℕ) → unit_is_allowed (units_allowed_by_prefix prefix) ahead (slice_get (unit_keys_of_text w) at)
      ≡ unit_is_allowed (units_allowed_by_prefix prefix) ahead (unit_key_at w.encoding (key (is_16_bit_encoding w.encoding)) w.text at)
  same-allowed prefix at ahead = ap (unit_is_allowed (units_allowed_by_prefix prefix) ahead) (slice_get-map (key (is_16_bit_encoding w.encoding)) (text_units_in_encoding w.encoding w.text) at)

  -- If the next unit is allowed, one more unit of the prefix fits.
  pub fits-goes : (prefix : Prefix) (at ahead : ℕ) (may : Bool) → may ≡ unit_is_allowed (units_allowed_by_prefix prefix) ahead (unit_key_at w.encoding (key (is_16_bit_encoding w.encoding)) w.text (at + ahead))
      → may ≡ true → prefix_allows_units_at (units_allowed_by_prefix prefix) (unit_keys_of_text w) at ahead ≡ true → prefix_allows_units_at (units_allowed_by_prefix prefix) (unit_keys_of_text w) at (ahead + 1) ≡ true
  fits-goes prefix at ahead may asked holds all =
      ap (prefix_allows_units_at (units_allowed_by_prefix prefix) (unit_keys_of_text w) at) (let z : ahead + 1 ≡ suc ahead = omega arith in z)
      ∙ fits-more (units_allowed_by_prefix prefix) (unit_keys_of_text w) at ahead all (same-allowed prefix (at + ahead) ahead ∙ sym asked ∙ holds)

  -- If a unit is not allowed, the prefix does not fit.
  pub fits-stops : (prefix : Prefix) (at ahead : ℕ) (may : Bool) → ahead < prefix.len → may ≡ unit_is_allowed (units_allowed_by_prefix prefix) ahead (unit_key_at w.encoding (key (is_16_bit_encoding w.encoding)) w.text (at + ahead))
      → may ≡ false → prefix_fits_at w prefix at ≡ false
  fits-stops prefix at ahead may less asked fails =
      fits-fails (units_allowed_by_prefix prefix) (unit_keys_of_text w) at prefix.len ahead less
      (same-allowed prefix (at + ahead) ahead ∙ sym asked ∙ fails)

-- ---- Bits of a probe

-- Where the prefix fits, the unit at its place passes the probe.
pub probe-passes : (w : SearchInput) → HasUnitsForTables w.encoding w.text → (prefix : Prefix) (at : ℕ) → prefix_fits_at w prefix at ≡ true → (probe : MaskedUnitProbe) → ProbePassesPrefix prefix probe
    → (u : ℕ) → slice_get (text_units_in_encoding w.encoding w.text) (at + probe.ahead) ≡ Some u → unit_passes_probe probe u ≡ true
probe-passes w has prefix at fit probe is u there =
    let one = fit-unit w has prefix at fit probe.ahead is.inside is.low in
    let small = one.2 in
    let same : one.0 ≡ u = some-same one.0 u (sym one.1 ∙ there) in
    ap (unit_passes_probe probe) (sym same) ∙ is.only one.0 (omega (arith, small)) one.3

-- The bits that a probe marks include each offset where the prefix fits.
pub probe-marks : (w : SearchInput) → HasUnitsForTables w.encoding w.text → (prefix : Prefix) (probe : MaskedUnitProbe) → ProbePassesPrefix prefix probe → (at marks : ℕ)
    → at + probe.ahead + 32 ≤ units w.text → MarksUnitsWithBits (text_units_in_encoding w.encoding w.text) (at + probe.ahead) probe.mask probe.bits marks
    → MarksAllPassing (prefix_fits_at w prefix) at marks
probe-marks w has prefix probe is at marks room are = record {
  each = λ i less fit.
      let us = text_units_in_encoding w.encoding w.text in
      let one = fit-unit w has prefix (at + i) fit probe.ahead is.inside is.low in
      let small = one.2 in
      let place : at + i + probe.ahead ≡ at + probe.ahead + i = omega arith in
      let same : slice_index us (at + probe.ahead + i) ≡ one.0 = get_or_from_slice_get us (at + probe.ahead + i) one.0 0 (sym (ap (slice_get us) place) ∙ one.1) in
      let low : one.0 % 256 ≡ one.0 = omega (arith, small) in
      let passes : has_bits probe.mask probe.bits one.0 ≡ true = ap (has_bits probe.mask probe.bits) (sym low) ∙ is.only one.0 (omega (arith, small)) one.3 in
      eqb-true (bit_at marks i) 1 (sym (are.each i less) ∙ ap (has_bits probe.mask probe.bits) same ∙ passes);
  within = are.within;
}

-- The same for a probe that tests all bits of a unit: its bits are the unit itself.
pub exact-probe-marks : (w : SearchInput) → HasUnitsForTables w.encoding w.text → (prefix : Prefix) (probe : MaskedUnitProbe) → ProbePassesPrefix prefix probe → probe.mask ≡ 255 → (at marks : ℕ)
    → at + probe.ahead + 32 ≤ units w.text → MarksUnitsWithBits (text_units_in_encoding w.encoding w.text) (at + probe.ahead) 0xFFFF probe.bits marks
    → MarksAllPassing (prefix_fits_at w prefix) at marks
exact-probe-marks w has prefix probe is whole at marks room are = record {
  each = λ i less fit.
      let us = text_units_in_encoding w.encoding w.text in
      let one = fit-unit w has prefix (at + i) fit probe.ahead is.inside is.low in
      let small = one.2 in
      let place : at + i + probe.ahead ≡ at + probe.ahead + i = omega arith in
      let same : slice_index us (at + probe.ahead + i) ≡ one.0 = get_or_from_slice_get us (at + probe.ahead + i) one.0 0 (sym (ap (slice_get us) place) ∙ one.1) in
      let narrow : bit_and (one.0 % 256) 255 ≡ one.0 % 256 % 256 = and_numeral (one.0 % 256) 254 refl in
      let wide : bit_and one.0 0xFFFF ≡ one.0 % 0x1_0000 = and_numeral one.0 0xFFFE refl in
      let alike : bit_and one.0 0xFFFF ≡ bit_and (one.0 % 256) probe.mask = omega (arith, small, narrow, wide) ∙ ap (bit_and (one.0 % 256)) (sym whole) in
      let passes : has_bits 0xFFFF probe.bits one.0 ≡ true = ap (λ n. n == probe.bits) alike ∙ is.only one.0 (omega (arith, small)) one.3 in
      eqb-true (bit_at marks i) 1 (sym (are.each i less) ∙ ap (has_bits 0xFFFF probe.bits) same ∙ passes);
  within = are.within;
}

-- Each probe in a list of probes that test all bits of a unit does so.
pub exact-at : (probes : List MaskedUnitProbe) → list_all (λ probe. probe.mask == 255) probes ≡ true → (i : ℕ) (probe : MaskedUnitProbe) → slice_get probes i ≡ Some probe → probe.mask ≡ 255
exact-at [] all i probe there = cc
exact-at (p ∷ ps) all zero probe there =
    ap (λ probe. probe.mask) (sym (some-same p probe there)) ∙ eqb-true p.mask 255 (and-left (p.mask == 255) (list_all (λ probe. probe.mask == 255) ps) all)
exact-at (p ∷ ps) all (suc i) probe there = exact-at ps (and-right (p.mask == 255) (list_all (λ probe. probe.mask == 255) ps) all) i probe there

-- ---- First fits in a range

module _ (w : SearchInput) (prefix : Prefix) where
  -- The first fit in a range is the first boundary where the prefix fits.
  pub found-where : HasUnitsForTables w.encoding w.text → 0 < prefix.len → PrefixAllowsOnlyAsciiFirst prefix → (from to at : ℕ) → IsFirstPrefixFitInRange w prefix from to (Some at)
      → IsFirstBoundaryWhere w (prefix_fits_at w prefix) from (Some at)
  found-where has some ascii from to at first =
      (fit-boundary w has prefix at first.2 some ascii, first.0, first.2, λ x on le less. first.3 x le less)

  -- If no room is left behind the range, the first fit in it is the first one at all.
  pub first-where : HasUnitsForTables w.encoding w.text → 0 < prefix.len → PrefixAllowsOnlyAsciiFirst prefix → (from to : ℕ) (found : Option ℕ) → units w.text + 1 ≤ to + prefix.len
      → IsFirstPrefixFitInRange w prefix from to found → IsFirstBoundaryWhere w (prefix_fits_at w prefix) from found
  first-where has some ascii from to None all first = λ at on le less. elim (cases_lt at to) [
    | inl before ↦ first at le before
    | inr after ↦
        let count : length (unit_keys_of_text w) ≡ units w.text = length-map (text_units_in_encoding w.encoding w.text) (key (is_16_bit_encoding w.encoding)) ∙ sym (units-length w.encoding w.text has.spelled) in
        fits-past (units_allowed_by_prefix prefix) (unit_keys_of_text w) at prefix.len (prefix.len - 1) (omega (arith, some)) (omega (arith, after, all, some, count))
  ]
  first-where has some ascii from to (Some at) all first = found-where has some ascii from to at first
