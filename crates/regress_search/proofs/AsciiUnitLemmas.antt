-- A code unit below 128 is a whole character, and is its own key.
use Rattle.std.proofs.Common.{◌≡◌, ℕ, zero, suc, ◌+◌, ◌-◌, ◌/◌, ◌%◌, ◌<◌, ◌≤◌, Bool, true, false, not, ◌&&◌, List, [], ◌∷◌, ◌++◌, length, take, Option, Some, None, refl, ap, sym, ◌∙◌, subst, arith}
use Rattle.std.proofs.Common.{slice_get}
use Rattle.std.specs.Prelude.{option_map, flat_map, nat_le, nat_lt, if◌then◌else◌}
use Rattle.std.proofs.lemmas.Bool.{cases_lt, lt-ltb, le-ltb, lt-leb}
use Rattle.std.proofs.lemmas.Option.{slice_get-map}
use Rattle.std.proofs.lemmas.List.{length-append}
use mathlib.Core.Logic.{◌⊎◌, inl, inr}
use Rattle.regex_meaning.specs.Text.{Text}
use Rattle.regex_meaning.specs.CodeUnitOffsets.{IsBoundary}
use Rattle.regex_meaning.specs.CodeUnits.{Encoding, utf8, utf16, ucs2, code_units_of_character, text_units_in_encoding, surrogate_pair}
use Rattle.regex_meaning.proofs.OptionLemmas.{some-same}
use Rattle.regex_meaning.proofs.CodeUnitOffsetsLemmas.{offset-IsBoundary}
use Rattle.regex_meaning.proofs.ListLemmas.{get-front, get-behind}
use Rattle.regress_input.proofs.UnitsAtBoundaries.{boundary-byte, offset-units}
use Rattle.regress_machine.specs.FirstSetTables.{HasUnitsForTables}
use Rattle.regress_machine.specs.RequiredPrefixes.{unit_is_allowed}
use Rattle.regress_program.specs.declared.required_prefix_types.Prefix.{Prefix}
use Rattle.regress_program.specs.PrefixesAndPrefilters.{units_allowed_by_prefix, AllowsOnlyAsciiAt, PrefixAllowsOnlyAsciiFirst}
use Rattle.regress_program.specs.TableKeysOfUnits.{key, is_16_bit_encoding}
use Rattle.regress_search.specs.TreePlanAndText.{SearchInput}
use Rattle.regress_search.specs.StartSearch.{unit_keys_of_text, prefix_fits_at}
use Rattle.regress_search.proofs.PrefixUnitLemmas.{fits-each}
use Rattle.regress_search.proofs.NextCharByUnit.{unit-fits}

-- ---- Units below 128

-- If no later unit of a character is of a kind, a unit of that kind begins a character.
module _ (e : Encoding) (Kind : ℕ → Type 0) (later : (c i u : ℕ) → slice_get (code_units_of_character e c) (suc i) ≡ Some u → Kind u → ⊥) where
  abbrev spell : List ℕ → List ℕ
  spell = flat_map (code_units_of_character e)

  located : (cs : List ℕ) (i u : ℕ) → slice_get (spell cs) i ≡ Some u → Kind u → (p : ℕ) × (p ≤ length cs) × (length (spell (take p cs)) ≡ i)
  located [] i u there low = cc
  located (c ∷ cs) i u there low = by (cases_lt i (length (code_units_of_character e c))) (λ j rest. located cs j u rest low)
    where
      here : (i : ℕ) → slice_get (code_units_of_character e c) i ≡ Some u → (p : ℕ) × (p ≤ length (c ∷ cs)) × (length (spell (take p (c ∷ cs))) ≡ i)
      here zero at = (0, omega arith, refl)
      here (suc i) at = absurd (later c i u at low)

      by : (i < length (code_units_of_character e c)) ⊎ (length (code_units_of_character e c) ≤ i)
          → ((j : ℕ) → slice_get (spell cs) j ≡ Some u → (p : ℕ) × (p ≤ length cs) × (length (spell (take p cs)) ≡ j))
          → (p : ℕ) × (p ≤ length (c ∷ cs)) × (length (spell (take p (c ∷ cs))) ≡ i)
      by (inl less) more = here i (sym (get-front (code_units_of_character e c) (spell cs) i less) ∙ there)
      by (inr le) more =
          let back : i ≡ length (code_units_of_character e c) + (i - length (code_units_of_character e c)) = omega (arith, le) in
          let rest = more (i - length (code_units_of_character e c))
          (sym (get-behind (code_units_of_character e c) (spell cs) (i - length (code_units_of_character e c))) ∙ ap (slice_get (code_units_of_character e c ++ spell cs)) (sym back) ∙ there) in
          let inside = rest.1 in
          let same = rest.2 in
          let both = length-append (code_units_of_character e c) (spell (take rest.0 cs)) in
          (suc rest.0, omega (arith, inside), omega (arith, both, same, back))

  located-boundary : (text : Text) → HasUnitsForTables e text → (at u : ℕ) → slice_get (text_units_in_encoding e text) at ≡ Some u → Kind u → IsBoundary text at
  located-boundary text has at u there low =
      let p = located text.characters at u there low in
      subst (IsBoundary text) (offset-units e text has.spelled p.0 p.1 ∙ p.2) (offset-IsBoundary text p.0 has.is_text p.1)

pub low-boundary : (e : Encoding) (text : Text) → HasUnitsForTables e text → (at u : ℕ) → slice_get (text_units_in_encoding e text) at ≡ Some u → u < 128 → IsBoundary text at
low-boundary utf8 text has at u there low = boundary-byte text has.spelled at u there ∙ ap (λ (b : Bool). not (b && nat_le u 0xBF)) (lt-leb 0x80 u low)
low-boundary utf16 text has at u there low = located-boundary utf16 (λ u. u < 128) later text has at u there low
  where
    later : (c i u : ℕ) → slice_get (code_units_of_character utf16 c) (suc i) ≡ Some u → u < 128 → ⊥
    later c i u there low = by (nat_lt c 0x1_0000) there
      where
        by : (b : Bool) → slice_get (if b then c ∷ [] else surrogate_pair c) (suc i) ≡ Some u → ⊥
        by true at = cc
        by false at = second i at
          where
            second : (i : ℕ) → slice_get (surrogate_pair c) (suc i) ≡ Some u → ⊥
            second zero at = let e : 0xDC00 + (c - 0x1_0000) % 0x400 ≡ u = some-same _ u at in omega (arith, e, low)
            second (suc i) at = cc
low-boundary ucs2 text has at u there low = located-boundary ucs2 (λ u. u < 128) (λ c i u there low. cc there) text has at u there low

-- The unit is not the second one of a surrogate pair.
abbrev pub EndsNoPair : ℕ → Type 0
EndsNoPair u = (u < 0xDC00) ⊎ (0xE000 ≤ u)

pub beside-boundary : (e : Encoding) → is_16_bit_encoding e ≡ true → (text : Text) → HasUnitsForTables e text → (at u : ℕ) → slice_get (text_units_in_encoding e text) at ≡ Some u → EndsNoPair u → IsBoundary text at
beside-boundary utf8 wide text has at u there beside = cc
beside-boundary utf16 wide text has at u there beside = located-boundary utf16 EndsNoPair later text has at u there beside
  where
    apart : (x u : ℕ) → 0xDC00 + x % 0x400 ≡ u → EndsNoPair u → ⊥
    apart x u same (inl less) = omega (arith, same, less)
    apart x u same (inr more) = omega (arith, same, more)

    later : (c i u : ℕ) → slice_get (code_units_of_character utf16 c) (suc i) ≡ Some u → EndsNoPair u → ⊥
    later c i u there beside = by (nat_lt c 0x1_0000) there
      where
        by : (b : Bool) → slice_get (if b then c ∷ [] else surrogate_pair c) (suc i) ≡ Some u → ⊥
        by true at = cc
        by false at = second i at
          where
            second : (i : ℕ) → slice_get (surrogate_pair c) (suc i) ≡ Some u → ⊥
            second zero at = apart (c - 0x1_0000) u (some-same _ u at) beside
            second (suc i) at = cc
beside-boundary ucs2 wide text has at u there beside = located-boundary ucs2 EndsNoPair (λ c i u there beside. cc there) text has at u there beside

-- ---- Keys of units

-- The key of a unit is less than 256.
pub key-small : (wide : Bool) (u : ℕ) → u < (if wide then 0x1_0000 else 0x100) → key wide u < 256
key-small false u less = less
key-small true u less = elim (cases_lt u 128) [
  | inl low ↦ subst (λ (b : Bool). (if b then u else 128 + u / 512) < 256) (sym (lt-ltb u 128 low)) (omega (arith, low))
  | inr high ↦ subst (λ (b : Bool). (if b then u else 128 + u / 512) < 256) (sym (le-ltb u 128 high)) (omega (arith, less))
]

-- A unit below 128 is its own key.
pub key-of-low : (wide : Bool) (u : ℕ) → u < 128 → key wide u ≡ u
key-of-low false u low = refl
key-of-low true u low = ap (λ (b : Bool). if b then u else 128 + u / 512) (lt-ltb u 128 low)

pub key-own : (wide : Bool) (u : ℕ) → key wide u < 128 → u ≡ key wide u
key-own false u low = refl
key-own true u low = elim (cases_lt u 128) [
  | inl less ↦ sym (ap (λ (b : Bool). if b then u else 128 + u / 512) (lt-ltb u 128 less))
  | inr more ↦
      let high : key true u ≡ 128 + u / 512 = ap (λ (b : Bool). if b then u else 128 + u / 512) (le-ltb u 128 more) in
      absurd (omega (arith, low, high))
]

module _ (w : SearchInput) (has : HasUnitsForTables w.encoding w.text) (prefix : Prefix) (at : ℕ) (fit : prefix_fits_at w prefix at ≡ true) where
  -- Where the prefix fits and allows only ASCII, an allowed unit below 128 stands.
  pub fit-unit : (ahead : ℕ) → ahead < prefix.len → AllowsOnlyAsciiAt prefix ahead
      → (u : ℕ) × (slice_get (text_units_in_encoding w.encoding w.text) (at + ahead) ≡ Some u) × (u < 128) × (units_allowed_by_prefix prefix ahead u ≡ true)
  fit-unit ahead less ascii =
      by (slice_get (text_units_in_encoding w.encoding w.text) (at + ahead)) refl
      (sym (ap (unit_is_allowed (units_allowed_by_prefix prefix) ahead) (slice_get-map (key (is_16_bit_encoding w.encoding)) (text_units_in_encoding w.encoding w.text) (at + ahead)))
      ∙ fits-each (units_allowed_by_prefix prefix) (unit_keys_of_text w) at prefix.len ahead less fit)
    where
      by : (o : Option ℕ) → slice_get (text_units_in_encoding w.encoding w.text) (at + ahead) ≡ o → unit_is_allowed (units_allowed_by_prefix prefix) ahead (option_map (key (is_16_bit_encoding w.encoding)) o) ≡ true
          → (u : ℕ) × (slice_get (text_units_in_encoding w.encoding w.text) (at + ahead) ≡ Some u) × (u < 128) × (units_allowed_by_prefix prefix ahead u ≡ true)
      by None there may = cc
      by (Some u) there may =
          let low = ascii (key (is_16_bit_encoding w.encoding) u) (key-small (is_16_bit_encoding w.encoding) u (unit-fits w.encoding w.text has (at + ahead) u there)) may in
          let own = key-own (is_16_bit_encoding w.encoding) u low in
          (u, there, subst (λ k. k < 128) (sym own) low, ap (units_allowed_by_prefix prefix ahead) own ∙ may)

  -- If the prefix allows only ASCII units first, an offset where it fits is a boundary.
  pub fit-boundary : 0 < prefix.len → PrefixAllowsOnlyAsciiFirst prefix → IsBoundary w.text at
  fit-boundary some ascii =
      let one = fit-unit 0 some ascii in
      low-boundary w.encoding w.text has at one.0 (ap (slice_get (text_units_in_encoding w.encoding w.text)) (let z : at ≡ at + 0 = omega arith in z) ∙ one.1) one.2
