-- The start search finds the first boundary at which a table, or the required prefix, allows a
-- match.
use Rattle.std.proofs.Common.{map, ◌≡◌, ℕ, zero, suc, ◌+◌, ◌-◌, ◌<◌, ◌≤◌, Bool, true, false, not, List, [], ◌∷◌, length, drop, take, get_or, Option, Some, None, refl, ap, sym, ◌∙◌, subst, arith}
use Rattle.std.proofs.Common.{slice_get, le_refl}
use Rattle.std.specs.Prelude.{option_map, slice_index, nat_lt, nat_le, nat_eq, ◌&&◌, ◌||◌}
use Rattle.std.proofs.lemmas.Bool.{cases_lt, lt-ltb, le-ltb, lt-leb, leb-true, ltb-true, eqb-true, false_from_ne_true}
use Rattle.std.proofs.lemmas.Option.{slice_get-get_or}
use Rattle.std.proofs.lemmas.List.{get_or-drop, length-drop, map-id}
use Rattle.std.proofs.Math.Bool.{and-false}
use mathlib.Core.Logic.{inl, inr}
use Rattle.regex_meaning.specs.NumberListHelpers.{contains}
use Rattle.regex_meaning.specs.Text.{Text, rightwards}
use Rattle.regex_meaning.specs.CodeUnitOffsets.{HasRisingPlaceOffsets, IsBoundary, units, read}
use Rattle.regex_meaning.specs.CodeUnits.{Encoding, utf8, utf16, ucs2, text_units_in_encoding, HasOffsetsInEncoding}
use Rattle.regex_meaning.proofs.BoolLemmas.{and-left}
use Rattle.regex_meaning.proofs.CodeUnitOffsetsLemmas.{place-less}
use Rattle.regex_pattern_front.specs.FirstPassingIndex.{FindsFirstPassingIndex, is_member_byte_at_index}
use Rattle.memchr.specs.Find.{IsFirstByte, is_byte3}
use Rattle.regress_input.specs.CharAndByteReadsFromOffset.{past, bytes_of, bytes_if_byte_units, is_byte_encoding, IsFirstOccurrenceFrom}
use Rattle.regress_input.specs.Utf8.{is_continuation_byte}
use Rattle.regress_input.proofs.UnitsAtBoundaries.{boundary-byte, units-length}
use Rattle.regress_input.proofs.BoundaryPositions.{end_boundary, past_ahead, past_boundary, boundary_inside, place_of_boundary, step_right}
use Rattle.regress_input.proofs.UnitsOfInputTexts.{utf8-units}
use Rattle.regress_machine.specs.FirstSetTables.{AllowedNextKeys, HasUnitsForTables, table_allows_key_or_end, unit_key_at}
use Rattle.regress_program.specs.TableKeysOfUnits.{key, is_16_bit_encoding, begins_utf8_character}
use Rattle.regress_search.specs.TreePlanAndText.{SearchInput}
use Rattle.regress_search.proofs.AllowedUnitTables.{no-key}
use Rattle.regress_search.proofs.NextCharByUnit.{unit-fits}
use Rattle.regress_search.proofs.PrefixUnitLemmas.{own-key, fits-past, fits-behind}
use Rattle.regress_program.specs.declared.required_prefix_types.Prefix.{Prefix}
use Rattle.regress_program.specs.PrefixesAndPrefilters.{units_allowed_by_prefix, prefix_allows_units_at, PrefixAllowsOnlyAsciiFirst, ListsFirstUnits}
use Rattle.regress_search.proofs.AsciiUnitLemmas.{fit-boundary, fit-unit, key-of-low}
use Rattle.regress_search.specs.StartSearch.{table_allows_unit_or_end_at, TableAllowsNoBoundary, IsFirstAllowedBoundary, IsFirstBoundaryWhere, AllowsOnlyLeadBytes, SkipsNoBoundary}
use Rattle.regress_program.specs.declared.up_to_three_units.UpToThreeUnits.{UpToThreeUnits}
use Rattle.regress_program.specs.ListedUnits.{is_listed}
use Rattle.regress_search.specs.StartSearch.{IsFirstByteSearchHit, table_of_listed_units, prefix_fits_at, NoBoundaryWhere, FitsNotBefore}

-- ---- Offsets behind a unit

pub none-between : (text : Text) → HasRisingPlaceOffsets text → (at to : ℕ) → past text rightwards at ≡ Some to → (x : ℕ) → IsBoundary text x → at < x → x < to → ⊥
none-between text is at to led x on more less = by (read text rightwards at) refl led
  where
    by : (o : Option (ℕ × ℕ)) → read text rightwards at ≡ o → option_map {T = ℕ × ℕ} (λ r. r.1) o ≡ Some to → ⊥
    by None e h = cc
    by (Some r) e h =
        let same : r.1 ≡ to = cc in
        let step = step_right text is at r.0 r.1 e in
        let q = place_of_boundary text is x on in
        let from = step.from in
        let upto = step.upto in
        let after = place-less text step.place q.0 is from.within q.1.within (omega (arith, from.offset_is, q.1.offset_is, more)) in
        let before = place-less text q.0 (suc step.place) is q.1.within upto.within (omega (arith, upto.offset_is, q.1.offset_is, less, same)) in
        omega (arith, after, before)

pub past-character : (text : Text) → HasRisingPlaceOffsets text → (are_bytes : Bool) (at to : ℕ) → past text rightwards at ≡ Some to → SkipsNoBoundary text are_bytes at to
past-character text is are_bytes at to led = record {
  ahead = past_ahead text is at to led;
  inside = boundary_inside text is to (past_boundary text is at to led);
  alone = none-between text is at to led;
  boundary = λ h. past_boundary text is at to led;
}

pub past-byte : (text : Text) (are_bytes : Bool) → are_bytes ≡ true → (at : ℕ) → at < units text → SkipsNoBoundary text are_bytes at (at + 1)
past-byte text are_bytes is at less = record {
  ahead = omega arith;
  inside = omega (arith, less);
  alone = λ x on more before. omega (arith, more, before);
  boundary = λ no. let never : true ≡ false = sym is ∙ no in cc;
}

-- ---- Bytes that begin characters stand at boundaries

or-after : (a b : Bool) → a ≡ false → (a || b) ≡ true → b ≡ true
or-after true b e h = cc
or-after false b e h = h

lead-begins : (k : ℕ) → begins_utf8_character k ≡ true → is_continuation_byte k ≡ false
lead-begins k is = elim (cases_lt k 0x80) [
  | inl low ↦ ap (λ (b : Bool). b && nat_le k 0xBF) (lt-leb 0x80 k low)
  | inr high ↦
      let more = leb-true 0xC2 k (and-left (nat_le 0xC2 k) (nat_le k 0xF4) (or-after (nat_lt k 0x80) (nat_le 0xC2 k && nat_le k 0xF4) (le-ltb k 0x80 high) is)) in
      ap (λ (b : Bool). nat_le 0x80 k && b) (lt-leb k 0xBF (omega (arith, more))) ∙ and-false (nat_le 0x80 k)
]

boundary-lead : (e : Encoding) (text : Text) → HasUnitsForTables e text → (table : AllowedNextKeys) → AllowsOnlyLeadBytes (is_16_bit_encoding e) table → (at k : ℕ)
    → unit_key_at e (key (is_16_bit_encoding e)) text at ≡ Some k → k < 256 → table.keys k ≡ true → (is_byte_encoding e ≡ false → IsBoundary text at) → IsBoundary text at
boundary-lead utf8 text has table leads at k there small allowed wide =
    boundary-byte text has.spelled at k (sym (own-key (slice_get (text_units_in_encoding utf8 text) at)) ∙ there) ∙ ap not (lead-begins k (leads refl k small allowed))
boundary-lead utf16 text has table leads at k there small allowed wide = wide refl
boundary-lead ucs2 text has table leads at k there small allowed wide = wide refl

-- ---- Searches unit by unit

module _ (w : SearchInput) (table : AllowedNextKeys) (from : ℕ) where
  -- The table allows nothing from `from` up to `at`, which is a boundary if units are no bytes.
  pub record Scans (at : ℕ) : Type 0 where
    pub passed : from ≤ at
    pub inside : at ≤ units w.text
    pub boundary : is_byte_encoding w.encoding ≡ false → IsBoundary w.text at
    pub none : TableAllowsNoBoundary w table from at

  pub scan-begins : HasRisingPlaceOffsets w.text → IsBoundary w.text from → Scans from
  scan-begins is on = record {
    passed = le_refl from;
    inside = boundary_inside w.text is from on;
    boundary = λ wide. on;
    none = λ x on le less. absurd (omega (arith, le, less));
  }

  excludes : (at k : ℕ) → unit_key_at w.encoding (key (is_16_bit_encoding w.encoding)) w.text at ≡ Some k → table.keys k ≡ false → table_allows_unit_or_end_at w table at ≡ false
  excludes at k there none = ap (table_allows_key_or_end table) there ∙ none

  pub scan-goes : (at to k : ℕ) → Scans at → SkipsNoBoundary w.text (is_byte_encoding w.encoding) at to
      → unit_key_at w.encoding (key (is_16_bit_encoding w.encoding)) w.text at ≡ Some k → table.keys k ≡ false → Scans to
  scan-goes at to k s p there excluded = record {
    passed = let a = s.passed in let b = p.ahead in omega (arith, a, b);
    inside = p.inside;
    boundary = p.boundary;
    none = λ x on le less. elim (cases_lt x at) [
      | inl before ↦ s.none x on le before
      | inr after ↦ elim (cases_lt at x) [
        | inl more ↦ absurd (p.alone x on more less)
        | inr most ↦ let here : at ≡ x = omega (arith, after, most) in subst (λ x. table_allows_unit_or_end_at w table x ≡ false) here (excludes at k there excluded)
      ]
    ];
  }

  module _ (has : HasUnitsForTables w.encoding w.text) where
    pub scan-finds : (at k : ℕ) (is : Bool) → AllowsOnlyLeadBytes (is_16_bit_encoding w.encoding) table → Scans at → unit_key_at w.encoding (key (is_16_bit_encoding w.encoding)) w.text at ≡ Some k
        → k < 256 → is ≡ table.keys k → is ≡ true → IsFirstAllowedBoundary w table from (Some at)
    scan-finds at k is leads s there small asked holds = (
      boundary-lead w.encoding w.text has table leads at k there small (sym asked ∙ holds) s.boundary,
      s.passed,
      ap (table_allows_key_or_end table) there ∙ sym asked ∙ holds,
      s.none,
    )

    at-end : (at : ℕ) → Scans at → units w.text ≤ at → at ≡ units w.text
    at-end at s end = let most = s.inside in omega (arith, most, end)

    pub scan-ends : (at : ℕ) (is : Bool) → Scans at → units w.text ≤ at → is ≡ table.end → is ≡ true → IsFirstAllowedBoundary w table from (Some at)
    scan-ends at is s end asked holds = (
      end_boundary w.text has.is_text at (at-end at s end),
      s.passed,
      ap (table_allows_key_or_end table) (no-key w.encoding w.text has at end) ∙ sym asked ∙ holds,
      s.none,
    )

    pub scan-fails : (at : ℕ) (is : Bool) → Scans at → units w.text ≤ at → is ≡ table.end → is ≡ false → IsFirstAllowedBoundary w table from None
    scan-fails at is s end asked fails = λ x on le less. elim (cases_lt x at) [
      | inl before ↦ s.none x on le before
      | inr after ↦ ap (table_allows_key_or_end table) (no-key w.encoding w.text has x (omega (arith, after, end))) ∙ sym asked ∙ fails
    ]

-- ---- Searches for a few units

-- The first byte that is one of three is the first one that the list of three contains.
pub found-three : (us bytes : List ℕ) (found : Option ℕ) → length us ≡ 3 → IsFirstByte (is_byte3 (get_or us 0 0) (get_or us 1 0) (get_or us 2 0)) bytes found
    → FindsFirstPassingIndex (is_member_byte_at_index us bytes) (length bytes) found
found-three us bytes found sized f = by found f
  where
    or-last : (a b c : Bool) → (a || (b || (c || false))) ≡ (a || b || c)
    or-last true b c = refl
    or-last false true c = refl
    or-last false false true = refl
    or-last false false false = refl

    same : (us : List ℕ) → length us ≡ 3 → (x : ℕ) → contains us x ≡ is_byte3 (get_or us 0 0) (get_or us 1 0) (get_or us 2 0) x
    same [] e x = absurd (omega (arith, e))
    same (a ∷ []) e x = absurd (omega (arith, e))
    same (a ∷ b ∷ []) e x = absurd (omega (arith, e))
    same (a ∷ b ∷ c ∷ []) e x = or-last (nat_eq x a) (nat_eq x b) (nat_eq x c)
    same (a ∷ b ∷ c ∷ d ∷ us) e x = absurd (omega (arith, e))

    by : (found : Option ℕ) → IsFirstByte (is_byte3 (get_or us 0 0) (get_or us 1 0) (get_or us 2 0)) bytes found → FindsFirstPassingIndex (is_member_byte_at_index us bytes) (length bytes) found
    by None none = λ k less. same us sized (slice_index bytes k) ∙ false_from_ne_true (is_byte3 (get_or us 0 0) (get_or us 1 0) (get_or us 2 0) (slice_index bytes k)) (none k (omega arith) less)
    by (Some i) first = record {
      within = first.0.high;
      passes = same us sized (slice_index bytes i) ∙ first.1;
      none_before = λ k less.
          same us sized (slice_index bytes k)
          ∙ false_from_ne_true (is_byte3 (get_or us 0 0) (get_or us 1 0) (get_or us 2 0) (slice_index bytes k)) (first.0.before k (omega arith) less);
    }

-- If each listed unit passes a test, a unit in the list passes it.
few-pass : (p : ℕ → Bool) (us : List ℕ) (len u : ℕ) → ((k : ℕ) → k < len → p (get_or us k 0) ≡ true) → contains (take len us) u ≡ true → p u ≡ true
few-pass p us zero u each h = cc
few-pass p [] (suc len) u each h = cc
few-pass p (x ∷ us) (suc len) u each h = by (nat_eq u x) refl (λ rest. few-pass p us len u (λ k less. each (suc k) (omega (arith, less))) rest) h
  where
    by : (b : Bool) → nat_eq u x ≡ b → (contains (take len us) u ≡ true → p u ≡ true) → (b || contains (take len us) u) ≡ true → p u ≡ true
    by true e rest h = ap p (eqb-true u x e) ∙ each 0 (omega arith)
    by false e rest h = rest h

-- If each listed unit is below 128, a unit in the list is.
pub low-listed : (few : UpToThreeUnits) (u : ℕ) → ((k : ℕ) → k < few.len → get_or few.units k 0 < 128) → is_listed few u ≡ true → u < 128
low-listed few u low listed = ltb-true u 128 (few-pass (λ u. nat_lt u 128) few.units few.len u (λ k less. lt-ltb (get_or few.units k 0) 128 (low k less)) listed)

pub few-leads : (few : UpToThreeUnits) (wide : Bool) → ((k : ℕ) → k < few.len → begins_utf8_character (get_or few.units k 0) ≡ true) → AllowsOnlyLeadBytes wide (table_of_listed_units few)
few-leads few wide each single_unit k small allowed = few-pass begins_utf8_character few.units few.len k each allowed

-- A byte below 128 begins a character.
low-lead : (k : ℕ) → k < 128 → begins_utf8_character k ≡ true
low-lead k low = ap (λ (b : Bool). b || (nat_le 0xC2 k && nat_le k 0xF4)) (lt-ltb k 0x80 low)

pub low-leads : (few : UpToThreeUnits) (wide : Bool) → ((k : ℕ) → k < few.len → get_or few.units k 0 < 128) → AllowsOnlyLeadBytes wide (table_of_listed_units few)
low-leads few wide low = few-leads few wide (λ k less. low-lead (get_or few.units k 0) (low k less))

byte-key : (e : Encoding) (text : Text) → is_byte_encoding e ≡ true → (at : ℕ) → unit_key_at e (key (is_16_bit_encoding e)) text at ≡ slice_get (bytes_of text) at
byte-key utf8 text bytes at = own-key (slice_get (text_units_in_encoding utf8 text) at) ∙ ap (λ (us : List ℕ). slice_get us at) (utf8-units text.characters)
byte-key utf16 text bytes at = cc
byte-key ucs2 text bytes at = cc

byte-small : (e : Encoding) (text : Text) → HasUnitsForTables e text → is_byte_encoding e ≡ true → (at k : ℕ) → unit_key_at e (key (is_16_bit_encoding e)) text at ≡ Some k → k < 256
byte-small utf8 text has bytes at k there = unit-fits utf8 text has at k (sym (own-key (slice_get (text_units_in_encoding utf8 text) at)) ∙ there)
byte-small utf16 text has bytes at k there = cc
byte-small ucs2 text has bytes at k there = cc

byte-count : (e : Encoding) (text : Text) → is_byte_encoding e ≡ true → HasOffsetsInEncoding e text → units text ≡ length (bytes_of text)
byte-count utf8 text bytes spelled = units-length utf8 text spelled ∙ ap length (utf8-units text.characters)
byte-count utf16 text bytes spelled = cc
byte-count ucs2 text bytes spelled = cc

pub single_unit-bytes : (e : Encoding) → is_16_bit_encoding e ≡ false → is_byte_encoding e ≡ true
single_unit-bytes utf8 single_unit = refl
single_unit-bytes utf16 single_unit = cc
single_unit-bytes ucs2 single_unit = cc

-- If the bytes of a text are given, its units are bytes.
pub bytes-there : (are_bytes : Bool) (text : Text) (all : List ℕ) → Some all ≡ bytes_if_byte_units are_bytes text → are_bytes ≡ true
bytes-there true text all e = refl
bytes-there false text all e = cc

-- The first occurrence in an equal text, from an equal position, is the hit of the search.
pub found-in : {are_bytes : Bool} {text : Text} {pos : ℕ} {found : Option ℕ} (w : SearchInput) (stands_at : List ℕ → ℕ → Bool) (from : ℕ) (there : Option ℕ)
    → are_bytes ≡ is_byte_encoding w.encoding → text ≡ w.text → pos ≡ from → found ≡ there → IsFirstOccurrenceFrom are_bytes stands_at (bytes_of text) pos found → IsFirstByteSearchHit w stands_at from there
found-in {are_bytes = are_bytes} {text = text} {pos = pos} w stands_at from there bytes is at same found =
    subst (λ b. IsFirstOccurrenceFrom b stands_at (bytes_of w.text) from there) bytes
    (subst (λ t. IsFirstOccurrenceFrom are_bytes stands_at (bytes_of t) from there) is
    (subst (λ n. IsFirstOccurrenceFrom are_bytes stands_at (bytes_of text) n there) at
    (subst (λ o. IsFirstOccurrenceFrom are_bytes stands_at (bytes_of text) pos o) same found)))

-- The first byte of a few units is the first boundary that their table allows.
pub few-found : (w : SearchInput) → HasUnitsForTables w.encoding w.text → (few : UpToThreeUnits) (from : ℕ) → is_byte_encoding w.encoding ≡ true → AllowsOnlyLeadBytes (is_16_bit_encoding w.encoding) (table_of_listed_units few)
    → from ≤ units w.text → (found : Option ℕ) → IsFirstOccurrenceFrom true (λ bytes. is_member_byte_at_index (take few.len few.units) bytes) (bytes_of w.text) from found
    → IsFirstAllowedBoundary w (table_of_listed_units few) from found
few-found w has few from bytes leads inside found f = by f.0 f.1 found f.2
  where
    all : List ℕ
    all = bytes_of w.text

    table : AllowedNextKeys
    table = table_of_listed_units few

    length-rest : length (drop from all) ≡ length all - from
    length-rest = length-drop from all

    count : units w.text ≡ length all
    count = byte-count w.encoding w.text bytes has.spelled

    test : ℕ → Bool
    test i = is_member_byte_at_index (take few.len few.units) (drop from all) i

    -- The test at an index asks whether the byte at that offset is among the units.
    tested : (i : ℕ) → test i ≡ contains (take few.len few.units) (get_or all (from + i) 0)
    tested i = ap (contains (take few.len few.units)) (get_or-drop from all i 0)

    allowed : (at : ℕ) → at < length all → table_allows_unit_or_end_at w table at ≡ contains (take few.len few.units) (get_or all at 0)
    allowed at less = ap (table_allows_key_or_end table) (byte-key w.encoding w.text bytes at ∙ slice_get-get_or all at 0 less)

    excluded : (at : ℕ) → from ≤ at → at < length all → test (at - from) ≡ false → table_allows_unit_or_end_at w table at ≡ false
    excluded at le less none =
        let back : at ≡ from + (at - from) = omega (arith, le) in
        allowed at less ∙ ap (λ at. contains (take few.len few.units) (get_or all at 0)) back ∙ sym (tested (at - from)) ∙ none

    by : (index : Option ℕ) → FindsFirstPassingIndex test (length (drop from all)) index → (found : Option ℕ) → found ≡ option_map (λ i. from + i) index
        → IsFirstAllowedBoundary w table from found
    by None none None e = λ x on le less. elim (cases_lt x (units w.text)) [
      | inl before ↦ excluded x le (omega (arith, before, count)) (none (x - from) (omega (arith, le, before, count, length-rest)))
      | inr after ↦ ap (table_allows_key_or_end table) (no-key w.encoding w.text has x after)
    ]
    by None none (Some to) e = cc
    by (Some i) first None e = cc
    by (Some i) first (Some to) e =
        let there : to ≡ from + i = cc in
        let within = first.within in
        let less : to < length all = omega (arith, there, within, length-rest) in
        let has_it : contains (take few.len few.units) (get_or all to 0) ≡ true =
        ap (λ at. contains (take few.len few.units) (get_or all at 0)) there ∙ sym (tested i) ∙ first.passes in
        let keyed = byte-key w.encoding w.text bytes to ∙ slice_get-get_or all to 0 less in (
          boundary-lead w.encoding w.text has table leads to (get_or all to 0)
              keyed (byte-small w.encoding w.text has bytes to (get_or all to 0) keyed) has_it (λ no. let never : true ≡ false = sym bytes ∙ no in cc),
          omega (arith, there),
          allowed to less ∙ has_it,
          λ x on le before. excluded x le (omega (arith, before, less)) (first.none_before (x - from) (omega (arith, le, before, there))),
        )

-- ---- Searches for a prefix

-- The first index at which the prefix fits in bytes is the first boundary where it fits.
pub fitting-found : (w : SearchInput) → HasUnitsForTables w.encoding w.text → (prefix : Prefix) → is_16_bit_encoding w.encoding ≡ false → 0 < prefix.len → PrefixAllowsOnlyAsciiFirst prefix → (from : ℕ)
    → (found : Option ℕ) → IsFirstByteSearchHit w (λ bytes index. prefix_allows_units_at (units_allowed_by_prefix prefix) bytes index prefix.len) from found
    → IsFirstBoundaryWhere w (prefix_fits_at w prefix) from found
fitting-found w has prefix single_unit some ascii from found f = by in_bytes.0 in_bytes.1 found in_bytes.2
  where
    in_bytes : IsFirstOccurrenceFrom true (λ bytes index. prefix_allows_units_at (units_allowed_by_prefix prefix) bytes index prefix.len) (bytes_of w.text) from found
    in_bytes =
        subst (λ b. IsFirstOccurrenceFrom b (λ bytes index. prefix_allows_units_at (units_allowed_by_prefix prefix) bytes index prefix.len) (bytes_of w.text) from found)
        (single_unit-bytes w.encoding single_unit) f

    all : List ℕ
    all = bytes_of w.text

    test : (at : ℕ) → Bool
    test at = prefix_allows_units_at (units_allowed_by_prefix prefix) all at prefix.len

    same-units : (e : Encoding) → is_16_bit_encoding e ≡ false → map (key (is_16_bit_encoding e)) (text_units_in_encoding e w.text) ≡ all
    same-units utf8 n = map-id (text_units_in_encoding utf8 w.text) ∙ utf8-units w.text.characters
    same-units utf16 n = cc
    same-units ucs2 n = cc

    same : (at : ℕ) → prefix_fits_at w prefix at ≡ test at
    same at = ap (λ (us : List ℕ). prefix_allows_units_at (units_allowed_by_prefix prefix) us at prefix.len) (same-units w.encoding single_unit)

    length-rest : length (drop from all) ≡ length all - from
    length-rest = length-drop from all

    excluded : (at : ℕ) → from ≤ at → prefix_allows_units_at (units_allowed_by_prefix prefix) (drop from all) (at - from) prefix.len ≡ false → prefix_fits_at w prefix at ≡ false
    excluded at le none =
        let back : at ≡ from + (at - from) = omega (arith, le) in
        same at ∙ ap test back ∙ sym (fits-behind (units_allowed_by_prefix prefix) all from (at - from) prefix.len) ∙ none

    past : (at : ℕ) → length all ≤ at → prefix_fits_at w prefix at ≡ false
    past at end = same at ∙ fits-past (units_allowed_by_prefix prefix) all at prefix.len 0 some (omega (arith, end))

    by : (index : Option ℕ) → FindsFirstPassingIndex (λ i. prefix_allows_units_at (units_allowed_by_prefix prefix) (drop from all) i prefix.len) (length (drop from all)) index → (found : Option ℕ)
        → found ≡ option_map (λ i. from + i) index → IsFirstBoundaryWhere w (prefix_fits_at w prefix) from found
    by None none None e = λ x on le less. elim (cases_lt x (length all)) [
      | inl before ↦ excluded x le (none (x - from) (omega (arith, le, before, length-rest)))
      | inr after ↦ past x after
    ]
    by None none (Some to) e = cc
    by (Some i) first None e = cc
    by (Some i) first (Some to) e =
        let there : to ≡ from + i = cc in
        let within = first.within in
        let fit : test to ≡ true = ap test there ∙ sym (fits-behind (units_allowed_by_prefix prefix) all from i prefix.len) ∙ first.passes in (
          fit-boundary w has prefix to (same to ∙ fit) some ascii,
          omega (arith, there),
          same to ∙ fit,
          λ x on le before. excluded x le (first.none_before (x - from) (omega (arith, le, before, there))),
        )

-- ---- Searches for the units with which a prefix begins

module _ (w : SearchInput) (prefix : Prefix) (from : ℕ) where
  pub misses-begin : IsBoundary w.text from → FitsNotBefore w prefix from from
  misses-begin on = record {
    boundary = on;
    ahead = le_refl from;
    none = λ x there le less. absurd (omega (arith, le, less));
  }

  -- If the prefix does not fit at a boundary, it does not fit before the next one.
  pub misses-go : HasRisingPlaceOffsets w.text → (at to : ℕ) → FitsNotBefore w prefix from at → prefix_fits_at w prefix at ≡ false → past w.text rightwards at ≡ Some to
      → FitsNotBefore w prefix from to
  misses-go is at to s unfit led =
      let next = past-character w.text is false at to led in
      record {
        boundary = next.boundary refl;
        ahead = let a = s.ahead in let b = next.ahead in omega (arith, a, b);
        none = λ x on le less. elim (cases_lt x at) [
          | inl before ↦ s.none x on le before
          | inr after ↦ elim (cases_lt at x) [
            | inl more ↦ absurd (next.alone x on more less)
            | inr most ↦ let here : at ≡ x = omega (arith, after, most) in subst (λ x. prefix_fits_at w prefix x ≡ false) here unfit
          ]
        ];
      }

  -- The first fit from a later boundary is the first one, if there is none before that boundary.
  pub misses-later : (at : ℕ) → FitsNotBefore w prefix from at → (found : Option ℕ) → IsFirstBoundaryWhere w (prefix_fits_at w prefix) at found → IsFirstBoundaryWhere w (prefix_fits_at w prefix) from found
  misses-later at s None none = λ x on le less. elim (cases_lt x at) [
    | inl before ↦ s.none x on le before
    | inr after ↦ none x on after less
  ]
  misses-later at s (Some to) f = (
    f.0,
    let a = s.ahead in let b = f.1 in omega (arith, a, b),
    f.2,
    λ x on le less. elim (cases_lt x at) [
      | inl before ↦ s.none x on le before
      | inr after ↦ f.3 x on after less
    ],
  )

  module _ (has : HasUnitsForTables w.encoding w.text) (some : 0 < prefix.len) (ascii : PrefixAllowsOnlyAsciiFirst prefix)
      (few : UpToThreeUnits) (lists : ListsFirstUnits prefix few) where
    -- Where the prefix fits, one of its first units occurs.
    first-occurs : (at : ℕ) → prefix_fits_at w prefix at ≡ true → table_allows_unit_or_end_at w (table_of_listed_units few) at ≡ true
    first-occurs at fit =
        let one = fit-unit w has prefix at fit 0 some ascii in
        let low = one.2 in
        let there : slice_get (text_units_in_encoding w.encoding w.text) at ≡ Some one.0 = ap (slice_get (text_units_in_encoding w.encoding w.text)) (let z : at ≡ at + 0 = omega arith in z) ∙ one.1 in
        let keyed : unit_key_at w.encoding (key (is_16_bit_encoding w.encoding)) w.text at ≡ Some one.0 =
        ap (option_map (key (is_16_bit_encoding w.encoding))) there ∙ ap (λ (k : ℕ). Some k) (key-of-low (is_16_bit_encoding w.encoding) one.0 low) in
        ap (table_allows_key_or_end (table_of_listed_units few)) keyed ∙ lists.all one.0 (omega (arith, low)) one.3

    -- If the units are absent between two offsets, the prefix does not fit there.
    misses-between : (at to : ℕ) → TableAllowsNoBoundary w (table_of_listed_units few) at to → NoBoundaryWhere w (prefix_fits_at w prefix) at to
    misses-between at to none x on le less =
        false_from_ne_true (prefix_fits_at w prefix x) (λ fit.
        let never : true ≡ false = sym (first-occurs x fit) ∙ none x on le less in
        cc)

    -- If the units do not occur any more, the prefix does not fit.
    pub misses-all : (at : ℕ) → FitsNotBefore w prefix from at → IsFirstAllowedBoundary w (table_of_listed_units few) at None → IsFirstBoundaryWhere w (prefix_fits_at w prefix) from None
    misses-all at s none = misses-later at s None (misses-between at (units w.text + 1) none)

    -- The prefix does not fit before the next offset of one of the units.
    pub misses-before : (at hit : ℕ) → FitsNotBefore w prefix from at → IsFirstAllowedBoundary w (table_of_listed_units few) at (Some hit) → FitsNotBefore w prefix from hit
    misses-before at hit s found = record {
      boundary = found.0;
      ahead = let a = s.ahead in let b = found.1 in omega (arith, a, b);
      none = λ x on le less. elim (cases_lt x at) [
        | inl before ↦ s.none x on le before
        | inr after ↦ misses-between at hit found.3 x on after less
      ];
    }

-- The first units of a prefix begin characters.
pub first-lead : (prefix : Prefix) → PrefixAllowsOnlyAsciiFirst prefix → (few : UpToThreeUnits) (wide : Bool) → ListsFirstUnits prefix few → AllowsOnlyLeadBytes wide (table_of_listed_units few)
first-lead prefix ascii few wide lists single_unit k small listed =
    low-lead k (ascii k small (few-pass (units_allowed_by_prefix prefix 0) few.units few.len k lists.each listed))
