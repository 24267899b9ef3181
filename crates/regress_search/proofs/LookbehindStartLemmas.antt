-- The first candidate start by lookbehind is the boundary after the first allowed character.
use Rattle.std.proofs.Common.{◌≡◌, ℕ, zero, suc, ◌+◌, ◌-◌, ◌<◌, ◌≤◌, Bool, true, false, Option, Some, None, refl, ap, sym, ◌∙◌, arith}
use Rattle.std.specs.Prelude.{option_map, option_and_then}
use Rattle.std.specs.Option.{option_map_or}
use Rattle.std.proofs.lemmas.Bool.{cases_lt}
use mathlib.Core.Logic.{◌⊎◌, inl, inr}
use Rattle.regex_meaning.specs.Text.{Text, Direction, rightwards, leftwards, last_place}
use Rattle.regex_meaning.specs.CodeUnitOffsets.{HasRisingPlaceOffsets, IsBoundary, offset, units, read, read_at, place_at}
use Rattle.regex_meaning.specs.Outcomes.{is_some_and}
use Rattle.regex_meaning.proofs.CodeUnitOffsetsLemmas.{place-less}
use Rattle.regress_input.specs.CharAndByteReadsFromOffset.{past}
use Rattle.regress_input.proofs.BoundaryPositions.{place_of_boundary, left_then_right, right_then_left, before_ahead, before_boundary, past_ahead, past_boundary}
use Rattle.regress_machine.specs.FirstSetTables.{AllowedNextKeys, HasUnitsForTables, table_allows_key_or_end, unit_key_at}
use Rattle.regress_machine.proofs.GroupAndAssertionOutcomes.{slice_get_some}
use Rattle.regress_program.specs.declared.lookbehind_filter.PrecedingCharFilter.{PrecedingCharFilter}
use Rattle.regress_program.specs.declared.up_to_three_units.UpToThreeUnits.{UpToThreeUnits}
use Rattle.regress_program.specs.ListedUnits.{is_listed}
use Rattle.regress_program.specs.LookbehindFilter.{allows_start, unit_at_has_filter_key}
use Rattle.regress_program.specs.TableKeysOfUnits.{key, is_16_bit_encoding}
use Rattle.regress_search.specs.TreePlanAndText.{SearchInput}
use Rattle.regress_search.specs.StartSearch.{table_allows_unit_or_end_at, TableAllowsNoBoundary, IsFirstBoundaryWhere, IsPastFirstAllowedChar, NoBoundaryWhere, table_of_listed_units}
use Rattle.regress_search.proofs.AllowedUnitTables.{no-key}
use Rattle.regress_search.proofs.StartSearchLemmas.{none-between}

-- ---- Reads to the left and to the right

module _ (text : Text) (is : HasRisingPlaceOffsets text) where
  turned : (d e : Direction) (at to : ℕ) → ((c : ℕ) → read text d at ≡ Some (c, to) → read text e to ≡ Some (c, at)) → past text d at ≡ Some to → past text e to ≡ Some at
  turned d e at to back led = by (read text d at) refl led
    where
      by : (o : Option (ℕ × ℕ)) → read text d at ≡ o → option_map {T = ℕ × ℕ} (λ r. r.1) o ≡ Some to → past text e to ≡ Some at
      by None is_none h = cc
      by (Some r) is_some h =
          let same : r.1 ≡ to = cc in
          ap (option_map (λ (r : ℕ × ℕ). r.1)) (back r.0 (is_some ∙ ap (λ n. Some (r.0, n)) same))

  back-on : (at to : ℕ) → past text leftwards at ≡ Some to → past text rightwards to ≡ Some at
  back-on at to = turned leftwards rightwards at to (λ c. left_then_right text is at c to)

  on-back : (at to : ℕ) → past text rightwards at ≡ Some to → past text leftwards to ≡ Some at
  on-back at to = turned rightwards leftwards at to (λ c. right_then_left text is at c to)

  -- A character ends at a boundary that is behind another boundary.
  some-before : (x y : ℕ) → IsBoundary text x → IsBoundary text y → y < x → past text leftwards x ≡ None → ⊥
  some-before x y on at less none =
      let p = place_of_boundary text is x on in
      let q = place_of_boundary text is y at in
      let a = p.1.offset_is in
      let b = q.1.offset_is in
      by q.0 p.0 p.1.found p.1.within (place-less text q.0 p.0 is q.1.within p.1.within (omega (arith, a, b, less)))
    where
      by : (q p : ℕ) → place_at text x ≡ Some p → p ≤ last_place text → q < p → ⊥
      by q zero found within below = absurd (omega (arith, below))
      by q (suc j) found within below =
          let c = slice_get_some text.characters j (omega (arith, within)) in
          let led : past text leftwards x ≡ Some (offset text (suc j - 1)) =
          ap (λ o. option_map (λ (r : ℕ × ℕ). r.1) (option_and_then (read_at text leftwards) o)) found
          ∙ ap (λ o. option_map (λ (r : ℕ × ℕ). r.1) (option_map (λ c. (c, offset text (suc j - 1))) o)) c.1 in
          let never : None ≡ Some (offset text (suc j - 1)) = sym none ∙ led in
          cc

-- Where one of a few units is allowed, a unit of the text stands.
pub unit-inside : (w : SearchInput) → HasUnitsForTables w.encoding w.text → (few : UpToThreeUnits) (at : ℕ) → table_allows_unit_or_end_at w (table_of_listed_units few) at ≡ true → at < units w.text
unit-inside w has few at allowed = elim (cases_lt at (units w.text)) [
  | inl inside ↦ inside
  | inr past_it ↦
      let never : true ≡ false = sym allowed ∙ ap (table_allows_key_or_end (table_of_listed_units few)) (no-key w.encoding w.text has at past_it) in
      cc
]

-- ---- The start of the search for the character before

module _ (w : SearchInput) (has : HasUnitsForTables w.encoding w.text) (before : PrecedingCharFilter) where
  abbrev keys : AllowedNextKeys
  keys = table_of_listed_units before.keys

  abbrev lets : (at : ℕ) → Bool
  lets at = allows_start w.encoding before w.text at

  lets-behind : (at y : ℕ) → past w.text leftwards at ≡ Some y → lets at ≡ table_allows_unit_or_end_at w keys y
  lets-behind at y led =
      ap (λ o. option_map_or (unit_at_has_filter_key w.encoding before w.text) o before.edge) led ∙ same (unit_key_at w.encoding (key (is_16_bit_encoding w.encoding)) w.text y)
    where
      same : (o : Option ℕ) → is_some_and o (is_listed before.keys) ≡ table_allows_key_or_end keys o
      same None = refl
      same (Some k) = refl

  lets-first : (at : ℕ) → past w.text leftwards at ≡ None → lets at ≡ before.edge
  lets-first at none = ap (λ o. option_map_or (unit_at_has_filter_key w.encoding before w.text) o before.edge) none

  -- The character before `from` begins at `start`, or none is before it and no match begins there.
  abbrev pub LooksFrom : (from start : ℕ) → Type 0
  LooksFrom from start = (past w.text leftwards from ≡ Some start) ⊎ ((past w.text leftwards from ≡ None) × (start ≡ from) × (before.edge ≡ false))

  module _ (from start : ℕ) (on : IsBoundary w.text from) (looks : LooksFrom from start) where
    -- A character that ends at `from` or later begins at `start` or later.
    not-before : (x y : ℕ) → from ≤ x → past w.text leftwards x ≡ Some y → start ≤ y
    not-before x y le led = elim (cases_lt y start) [
      | inr late ↦ late
      | inl early ↦ absurd (by looks early)
    ]
      where
        by : LooksFrom from start → y < start → ⊥
        by (inl some) early =
            let ahead = before_ahead w.text has.is_text from start some in
            none-between w.text has.is_text y x (back-on w.text has.is_text x y led) start (before_boundary w.text has.is_text from start some) early (omega (arith, ahead, le))
        by (inr none) early =
            some-before w.text has.is_text from y on (before_boundary w.text has.is_text x y led) (omega (arith, early, none.1)) none.0

    -- If no character from `start` on is allowed, no boundary from `from` on is a candidate.
    none-behind : (upto end : ℕ) → TableAllowsNoBoundary w keys start upto → ((x y : ℕ) → IsBoundary w.text x → y < x → x < end → y < upto) → NoBoundaryWhere w lets from end
    none-behind upto end none below x at le less = by (past w.text leftwards x) refl
      where
        by : (o : Option ℕ) → past w.text leftwards x ≡ o → lets x ≡ false
        by (Some y) led =
            lets-behind x y led
            ∙ none y (before_boundary w.text has.is_text x y led) (not-before x y le led) (below x y at (before_ahead w.text has.is_text x y led) less)
        by None led = elim looks [
          | inl some ↦
              let ahead = before_ahead w.text has.is_text from start some in
              absurd (some-before w.text has.is_text x start at (before_boundary w.text has.is_text from start some) (omega (arith, ahead, le)) led)
          | inr first ↦ lets-first x led ∙ first.2
        ]

    -- The offset after the first allowed character, if there is one, is the first candidate.
    pub first-behind : (next : Option ℕ) → IsPastFirstAllowedChar w keys start next → IsFirstBoundaryWhere w lets from next
    first-behind None first = none-behind (units w.text + 1) (units w.text + 1) first (λ x y at less more. omega (arith, less, more))
    first-behind (Some to) (hit, first, led) = (
      past_boundary w.text has.is_text hit to led,
      reached looks,
      lets-behind to hit (on-back w.text has.is_text hit to led) ∙ first.2,
      none-behind hit to first.3 (λ x y at less more. elim (cases_lt y hit) [
        | inl early ↦ early
        | inr late ↦ absurd (none-between w.text has.is_text hit to led x at (omega (arith, late, less)) more)
      ]),
    )
      where
        after : hit < to
        after = past_ahead w.text has.is_text hit to led

        reached : LooksFrom from start → from ≤ to
        reached (inr none) = omega (arith, none.1, first.1, after)
        reached (inl some) = elim (cases_lt to from) [
          | inr late ↦ late
          | inl early ↦
              absurd (none-between w.text has.is_text start from (back-on w.text has.is_text from start some) to (past_boundary w.text has.is_text hit to led)
              (omega (arith, first.1, after)) early)
        ]
