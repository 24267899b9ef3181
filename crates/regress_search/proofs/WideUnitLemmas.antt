-- Tests of 16-bit units, many at a time, find the first unit at which a scan may end.
use Rattle.std.proofs.Common.{◌≡◌, ℕ, zero, suc, ◌+◌, ◌-◌, ◌*◌, ◌/◌, ◌<◌, ◌≤◌, ◌==◌, ◌&&◌, ◌||◌, Bool, true, false, not, List, [], ◌∷◌, length, take, get_or, Option, Some, None, refl, ap, ap₂, sym}
use Rattle.std.proofs.Common.{◌∙◌, subst, arith, slice_get, slice_index_or, nat_eq}
use Rattle.std.specs.Prelude.{if◌then◌else◌, bit_and, option_map}
use Rattle.std.proofs.lemmas.Bool.{eqb-true, eq-eqb, ne_eqb, cases_lt, cases_eq, lt-ltb, le-ltb, or_from, not_from_false, false_from_ne_true, or_parts}
use Rattle.std.proofs.lemmas.Nat.Bits.{and_high_mask}
use Rattle.regress_input.specs.TextCodeUnits.{has_bits, MarksUnitsWithBits}
use Rattle.std.specs.Int.{bit_at}
use mathlib.Core.Logic.{inl, inr}
use Rattle.std.proofs.lemmas.Option.{slice_get-get_or, slice_get_past}
use Rattle.regex_meaning.specs.NumberListHelpers.{contains}
use Rattle.regex_meaning.specs.Outcomes.{is_some_and}
use Rattle.regex_meaning.specs.CodeUnitOffsets.{IsBoundary, units}
use Rattle.regex_meaning.specs.CodeUnits.{Encoding, utf8, utf16, ucs2, text_units_in_encoding}
use Rattle.regress_input.specs.CharAndByteReadsFromOffset.{is_byte_encoding}
use Rattle.regress_input.proofs.UnitsAtBoundaries.{units-length}
use Rattle.regress_machine.specs.FirstSetTables.{AllowedNextKeys, HasUnitsForTables, table_allows_key_or_end}
use Rattle.regex_meaning.proofs.BoolLemmas.{and-left, and-right}
use Rattle.std.specs.List.{list_all}
use Rattle.regress_program.specs.declared.char_class_tables.Class.{Class}
use Rattle.regress_program.specs.declared.up_to_three_units.UpToThreeUnits.{UpToThreeUnits}
use Rattle.regress_program.specs.ListedUnits.{is_listed}
use Rattle.regress_program.specs.ClassReadLengths.{StopBytesCoverPossibleEnds, may_end_at}
use Rattle.regress_program.specs.TableKeysOfUnits.{key, is_16_bit_encoding, may_begin_surrogate_pair}
use Rattle.regress_search.specs.CharLoopExits.{ClassFitsText, ClassAcceptsAllCharsTo}
use Rattle.regress_search.specs.MarkedOffsets.{TestFailsThroughoutRange, IsFirstPassingOffset, MarksAllPassing}
use Rattle.regress_search.specs.ReadsAtOffset.{input_unit_at}
use Rattle.regress_search.specs.StartSearch.{NoBoundaryWhere, IsFirstAllowedBoundary, AllowsOnlyLeadBytes, table_of_listed_units, table_allows_unit_or_end_at}
use Rattle.regress_search.specs.TreePlanAndText.{SearchInput}
use Rattle.regress_search.specs.UnitRuns.{IsKeyTestAt}
use Rattle.regress_search.specs.declared.few_wide_units.UnitBits.{UnitBits}
use Rattle.regress_search.specs.WideUnits.{BitsIdentifyUnitsOfKey, unit_has_listed_key, bits_identify_key}
use Rattle.regress_search.proofs.MarkedOffsetLemmas.{first-same}
use Rattle.regress_search.proofs.AsciiUnitLemmas.{EndsNoPair, key-small, beside-boundary}
use Rattle.regress_search.proofs.NextCharByUnit.{unit-fits}
use Rattle.regress_search.proofs.UnitRunLemmas.{is_one_unit, accepts-run}

pub byte-narrow : (e : Encoding) → is_byte_encoding e ≡ true → is_16_bit_encoding e ≡ false
byte-narrow utf8 is = refl
byte-narrow utf16 is = cc
byte-narrow ucs2 is = cc

pub unit-wide : (e : Encoding) → is_byte_encoding e ≡ false → is_16_bit_encoding e ≡ true
unit-wide utf8 is = cc
unit-wide utf16 is = refl
unit-wide ucs2 is = refl

-- A key that a list contains is at some index of the list.
pub listed-at : (xs : List ℕ) (n k : ℕ) → contains (take n xs) k ≡ true → (i : ℕ) × (i < n) × (get_or xs i 0 ≡ k)
listed-at xs zero k has = cc
listed-at [] (suc n) k has = cc
listed-at (x ∷ xs) (suc n) k has = by (nat_eq k x) refl has (listed-at xs n k)
  where
    by : (b : Bool) → nat_eq k x ≡ b → (b || contains (take n xs) k) ≡ true → (contains (take n xs) k ≡ true → (i : ℕ) × (i < n) × (get_or xs i 0 ≡ k))
        → (i : ℕ) × (i < suc n) × (get_or (x ∷ xs) i 0 ≡ k)
    by true same h later = (0, omega arith, sym (eqb-true k x same))
    by false other h later =
        let rest = later h in
        let less = rest.1 in
        (suc rest.0, omega (arith, less), rest.2)

one-unless : (pair one stop : Bool) → ((not pair && not one) ≡ true → stop ≡ true) → pair ≡ false → stop ≡ false → one ≡ true
one-unless true one stop ends p s = cc
one-unless false true stop ends p s = refl
one-unless false false stop ends p s = let never : true ≡ false = sym (ends refl) ∙ s in cc

module _ (wide : Bool) (is_wide : wide ≡ true) (steps : List ℕ) (stops : UpToThreeUnits) (told : StopBytesCoverPossibleEnds wide steps stops) where
  -- The stop set does not contain the key 128.
  pub stops-not128 : is_listed stops 128 ≡ false
  stops-not128 = false_from_ne_true (is_listed stops 128) (λ has.
      let one = listed-at stops.units stops.len 128 has in
      let ends : may_end_at wide steps 128 ≡ true = ap (may_end_at wide steps) (sym one.2) ∙ told.set.ends one.0 one.1 in
      let never : true ≡ false = sym ends ∙ told.told is_wide in
      cc)

  -- A key that is no stop and may not begin a pair has the step one.
  pub one-beside : (k : ℕ) → k < 256 → (may_begin_surrogate_pair k || is_listed stops k) ≡ false → (slice_index_or steps k 0 == 1) ≡ true
  one-beside k small out =
      let both = or_parts (may_begin_surrogate_pair k) (is_listed stops k) out in
      one-unless (may_begin_surrogate_pair k) (slice_index_or steps k 0 == 1) (is_listed stops k)
      (λ ends. told.set.all k small (subst (λ b. may_end_at b steps k ≡ true) (sym is_wide) ends)) both.0 both.1

module _ (w : SearchInput) (has : HasUnitsForTables w.encoding w.text) (wide : is_16_bit_encoding w.encoding ≡ true) (class : Class) (readable : ClassFitsText w class)
    (stops : UpToThreeUnits) (told : StopBytesCoverPossibleEnds (is_16_bit_encoding w.encoding) class.steps stops) where
  one-there : (at : ℕ) → at < units w.text → unit_has_listed_key true stops w at ≡ false → IsKeyTestAt w (is_one_unit class) at true
  one-there at less out =
      let us = text_units_in_encoding w.encoding w.text in
      let u = get_or us at 0 in
      let there : slice_get us at ≡ Some u = slice_get-get_or us at 0 (omega (arith, less, units-length w.encoding w.text has.spelled)) in
      let k = key (is_16_bit_encoding w.encoding) u in
      let small : k < 256 = key-small (is_16_bit_encoding w.encoding) u (unit-fits w.encoding w.text has at u there) in
      let beside : (may_begin_surrogate_pair k || is_listed stops k) ≡ false =
      ap (λ b. may_begin_surrogate_pair (key b u) || is_listed stops (key b u)) wide
      ∙ sym (ap (λ o. is_some_and o (λ unit. (true && may_begin_surrogate_pair (key true unit)) || is_listed stops (key true unit))) there) ∙ out in
      (k, ap (option_map (key (is_16_bit_encoding w.encoding))) there, small, one-beside (is_16_bit_encoding w.encoding) wide class.steps stops told k small beside)

  pub accepts-until : (from to : ℕ) → IsBoundary w.text from → from ≤ to → to ≤ units w.text → TestFailsThroughoutRange (unit_has_listed_key true stops w) from to → ClassAcceptsAllCharsTo w class from to
  accepts-until from to on le inside none =
      let whole : from + (to - from) ≡ to = omega (arith, le) in
      subst (ClassAcceptsAllCharsTo w class from) whole
      (accepts-run w has class readable from on (to - from) (λ i less. one-there (from + i) (omega (arith, less, inside)) (none (from + i) (omega arith) (omega (arith, less)))))

-- ---- Keys of 16-bit units

pub key-low : (unit : ℕ) → unit < 128 → key true unit ≡ unit
key-low unit low = ap (λ (b : Bool). if b then unit else 128 + unit / 512) (lt-ltb unit 128 low)

pub key-high : (unit : ℕ) → 128 ≤ unit → key true unit ≡ 128 + unit / 512
key-high unit high = ap (λ (b : Bool). if b then unit else 128 + unit / 512) (le-ltb unit 128 high)

-- ---- Keys that bits identify

-- Past the last unit, the table allows what it allows at the end.
pub past-allowed : (w : SearchInput) → HasUnitsForTables w.encoding w.text → (table : AllowedNextKeys) (at : ℕ) → units w.text ≤ at → table_allows_unit_or_end_at w table at ≡ table.end
past-allowed w has table at past =
    ap (λ o. table_allows_key_or_end table (option_map (key (is_16_bit_encoding w.encoding)) o))
    (slice_get_past (text_units_in_encoding w.encoding w.text) at (omega (arith, past, units-length w.encoding w.text has.spelled)))

-- If all keys of a list pass a test, a key in the list passes it.
pub all-listed : (p : ℕ → Bool) (xs : List ℕ) (n k : ℕ) → list_all p xs ≡ true → contains (take n xs) k ≡ true → p k ≡ true
all-listed p xs zero k all has = cc
all-listed p [] (suc n) k all has = cc
all-listed p (x ∷ xs) (suc n) k all has = by (nat_eq k x) refl has (all-listed p xs n k (and-right (p x) (list_all p xs) all))
  where
    by : (b : Bool) → nat_eq k x ≡ b → (b || contains (take n xs) k) ≡ true → (contains (take n xs) k ≡ true → p k ≡ true) → p k ≡ true
    by true same h later = ap p (eqb-true k x same) ∙ and-left (p x) (list_all p xs) all
    by false other h later = later h

pub listed-told : (few : UpToThreeUnits) → list_all bits_identify_key few.units ≡ true → is_listed few 128 ≡ false
listed-told few all = false_from_ne_true (is_listed few 128) (λ has.
    let never : false ≡ true = all-listed bits_identify_key few.units few.len 128 all has in
    cc)

pub wide-leads : (e : Encoding) → is_16_bit_encoding e ≡ true → (few : UpToThreeUnits) → AllowsOnlyLeadBytes (is_16_bit_encoding e) (table_of_listed_units few)
wide-leads e wide few narrow = let never : true ≡ false = sym wide ∙ narrow in cc

-- Bits identify each key below 128.
pub low-told : (k : ℕ) → k < 128 → bits_identify_key k ≡ true
low-told k low =
    not_from_false (k == 128 || k == 238 || k == 239)
    (or_from (k == 128 || k == 238) (k == 239)
    (or_from (k == 128) (k == 238) (ne_eqb k 128 (λ same. omega (arith, low, same))) (ne_eqb k 238 (λ same. omega (arith, low, same))))
    (ne_eqb k 239 (λ same. omega (arith, low, same))))

-- A unit whose key is identified by bits is not the second one of a pair.
ends-no-pair : (unit : ℕ) → bits_identify_key (key true unit) ≡ true → EndsNoPair unit
ends-no-pair unit told = elim (cases_lt unit 0xDC00) [
  | inl less ↦ inl less
  | inr more ↦ elim (cases_lt unit 0xE000) [
    | inl low ↦
        let high = key-high unit (omega (arith, more)) in
        elim (cases_lt (key true unit) 239) [
          | inl first ↦
              let k : key true unit ≡ 238 = omega (arith, high, first, more) in
              let never : false ≡ true = sym (ap bits_identify_key k) ∙ told in
              cc
          | inr second ↦
              let k : key true unit ≡ 239 = omega (arith, high, second, low) in
              let never : false ≡ true = sym (ap bits_identify_key k) ∙ told in
              cc
        ]
    | inr beyond ↦ inr beyond
  ]
]

module _ (w : SearchInput) (has : HasUnitsForTables w.encoding w.text) (wide : is_16_bit_encoding w.encoding ≡ true) (few : UpToThreeUnits)
    (told : (k : ℕ) → is_listed few k ≡ true → bits_identify_key k ≡ true) where
  abbrev table : AllowedNextKeys
  table = table_of_listed_units few

  same-test : (at : ℕ) → table_allows_unit_or_end_at w table at ≡ unit_has_listed_key false few w at
  same-test at = by (slice_get (text_units_in_encoding w.encoding w.text) at)
    where
      by : (o : Option ℕ) → table_allows_key_or_end table (option_map (key (is_16_bit_encoding w.encoding)) o)
          ≡ is_some_and o (λ unit. (false && may_begin_surrogate_pair (key true unit)) || is_listed few (key true unit))
      by None = refl
      by (Some u) = ap (λ b. is_listed few (key b u)) wide

  none-before : (from to : ℕ) → to ≤ units w.text → TestFailsThroughoutRange (unit_has_listed_key false few w) from to → NoBoundaryWhere w (λ at. table_allows_unit_or_end_at w table at) from to
  none-before from to inside none at on le less = same-test at ∙ none at le less

  hit-boundary : (at : ℕ) → unit_has_listed_key false few w at ≡ true → IsBoundary w.text at
  hit-boundary at hit = by (slice_get (text_units_in_encoding w.encoding w.text) at) refl hit
    where
      by : (o : Option ℕ) → slice_get (text_units_in_encoding w.encoding w.text) at ≡ o
          → is_some_and o (λ unit. (false && may_begin_surrogate_pair (key true unit)) || is_listed few (key true unit)) ≡ true → IsBoundary w.text at
      by None there h = cc
      by (Some u) there h = beside-boundary w.encoding wide w.text has at u there (ends-no-pair u (told (key true u) h))

  pub wide-found : (from end : ℕ) (found : Option ℕ) → end ≡ units w.text → IsFirstPassingOffset (unit_has_listed_key false few w) from end found → IsFirstAllowedBoundary w table from found
  wide-found from end None ends none = λ at on le less. elim (cases_lt at (units w.text)) [
    | inl inside ↦ same-test at ∙ none at le (omega (arith, inside, ends))
    | inr past ↦ past-allowed w has table at past
  ]
  wide-found from end (Some to) ends first =
      let less = first.1 in
      (hit-boundary to first.2, first.0, same-test to ∙ first.2, none-before from to (omega (arith, less, ends)) first.3)

-- ---- Units that may begin a pair

pair-told : (unit : ℕ) → unit < 0x1_0000 → has_bits 0xFC00 0xD800 unit ≡ may_begin_surrogate_pair (key true unit)
pair-told unit small =
    let masked : bit_and unit 0xFC00 ≡ unit / 1024 * 1024 = and_high_mask 16 10 (omega arith) unit small in
    ap (λ n. n == 0xD800) masked ∙ elim (cases_lt unit 128) [
      | inl low ↦
          let own = key-low unit low in
          ne_eqb (unit / 1024 * 1024) 0xD800 (λ same. omega (arith, same, low))
          ∙ sym (ap₂ (λ (a b : Bool). a || b) (ne_eqb (key true unit) 236 (λ same. omega (arith, same, own, low))) (ne_eqb (key true unit) 237 (λ same. omega (arith, same, own, low))))
      | inr more ↦
          let high = key-high unit more in
          elim (cases_eq (unit / 1024) 54) [
            | inl same ↦ eq-eqb (unit / 1024 * 1024) 0xD800 (omega (arith, same)) ∙ sym (elim (cases_eq (unit / 512) 108) [
              | inl first ↦ ap (λ b. b || key true unit == 237) (eq-eqb (key true unit) 236 (omega (arith, high, first)))
              | inr second ↦ ap₂ (λ (a b : Bool). a || b) (ne_eqb (key true unit) 236 (λ e. second (omega (arith, e, high)))) (eq-eqb (key true unit) 237 (omega (arith, high, same, second)))
            ])
            | inr other ↦
                ne_eqb (unit / 1024 * 1024) 0xD800 (λ e. other (omega (arith, e)))
                ∙ sym (ap₂ (λ (a b : Bool). a || b) (ne_eqb (key true unit) 236 (λ e. other (omega (arith, e, high)))) (ne_eqb (key true unit) 237 (λ e. other (omega (arith, e, high)))))
          ]
    ]

-- ---- Tests of units

-- `is_of_kind` says whether the unit at an offset has the given bits under the mask.
abbrev pub is_of_kind : (mask bits : ℕ) → SearchInput → (at : ℕ) → Bool
is_of_kind mask bits w at = is_some_and (input_unit_at w at) (has_bits mask bits)

pub bits-mark : (w : SearchInput) → HasUnitsForTables w.encoding w.text → (mask bits at marks : ℕ) → at + 32 ≤ units w.text
    → MarksUnitsWithBits (text_units_in_encoding w.encoding w.text) at mask bits marks → MarksAllPassing (is_of_kind mask bits w) at marks
bits-mark w has mask bits at marks room are = record {
  each = λ i less holds.
      let us = text_units_in_encoding w.encoding w.text in
      let there : slice_get us (at + i) ≡ Some (get_or us (at + i) 0) = slice_get-get_or us (at + i) 0 (omega (arith, less, room, units-length w.encoding w.text has.spelled)) in
      let fit : has_bits mask bits (get_or us (at + i) 0) ≡ true = sym (ap (λ o. is_some_and o (has_bits mask bits)) there) ∙ holds in
      eqb-true (bit_at marks i) 1 (sym (are.each i less) ∙ fit);
  within = are.within;
}

pub or-none : (b : Bool) → b ≡ (b || false)
or-none true = refl
or-none false = refl

or-assoc : (a b c : Bool) → ((a || b) || c) ≡ (a || (b || c))
or-assoc true b c = refl
or-assoc false b c = refl

-- The set of the first `len` of these keys.
abbrev pub listing : (keys : List ℕ) (len : ℕ) → UpToThreeUnits
listing keys len = record { units = keys; len = len }

take-none : (n k : ℕ) → contains (take n []) k ≡ false
take-none zero k = refl
take-none (suc n) k = refl

-- The first key alone is contained exactly if the key equals it.
listed-one : (keys : List ℕ) (k : ℕ) → length keys ≡ 3 → contains (take 1 keys) k ≡ (k == get_or keys 0 0)
listed-one [] k three = absurd (omega (arith, three))
listed-one (x ∷ xs) k three = sym (or-none (k == x))

listed-two : (keys : List ℕ) (k : ℕ) → length keys ≡ 3 → contains (take 2 keys) k ≡ ((k == get_or keys 0 0) || (k == get_or keys 1 0))
listed-two [] k three = absurd (omega (arith, three))
listed-two (x ∷ []) k three = absurd (omega (arith, three))
listed-two (x ∷ y ∷ ys) k three = ap (λ b. (k == x) || b) (sym (or-none (k == y)))

listed-three : (keys : List ℕ) (len k : ℕ) → length keys ≡ 3 → 3 ≤ len → contains (take len keys) k ≡ ((k == get_or keys 0 0) || ((k == get_or keys 1 0) || (k == get_or keys 2 0)))
listed-three [] len k three most = absurd (omega (arith, three))
listed-three (x ∷ []) len k three most = absurd (omega (arith, three))
listed-three (x ∷ y ∷ []) len k three most = absurd (omega (arith, three))
listed-three (x ∷ y ∷ z ∷ []) zero k three most = absurd (omega (arith, most))
listed-three (x ∷ y ∷ z ∷ []) (suc zero) k three most = absurd (omega (arith, most))
listed-three (x ∷ y ∷ z ∷ []) (suc (suc zero)) k three most = absurd (omega (arith, most))
listed-three (x ∷ y ∷ z ∷ []) (suc (suc (suc len))) k three most = ap (λ b. (k == x) || ((k == y) || (k == z || b))) (take-none len k) ∙ ap (λ b. (k == x) || ((k == y) || b)) (sym (or-none (k == z)))
listed-three (x ∷ y ∷ z ∷ v ∷ vs) len k three most = absurd (omega (arith, three))

-- ---- Tests of a few keys

not128 : (k : ℕ) → (128 == k) ≡ false → k ≡ 128 → ⊥
not128 k other same = let never : true ≡ false = sym (eq-eqb 128 k (sym same)) ∙ other in cc

either-of : (o : Option ℕ) (f h : ℕ → Bool) → (is_some_and o f || is_some_and o h) ≡ is_some_and o (λ u. f u || h u)
either-of None f h = refl
either-of (Some u) f h = refl

-- A unit of any width is below 2¹⁶.
fits-16-bits : (wide : Bool) (u : ℕ) → u < (if wide then 0x1_0000 else 0x100) → u < 0x1_0000
fits-16-bits true u less = less
fits-16-bits false u less = omega (arith, less)

module _ (w : SearchInput) (has : HasUnitsForTables w.encoding w.text) (keys : List ℕ) (three : length keys ≡ 3) where
  abbrev Tells : UnitBits → (i : ℕ) → Type 0
  Tells kind i = (get_or keys i 0 ≡ 128 → ⊥) → BitsIdentifyUnitsOfKey kind (get_or keys i 0)

  abbrev has_kind : UnitBits → ℕ → Bool
  has_kind kind = has_bits kind.mask kind.bits

  abbrev at_kind : UnitBits → ℕ → Bool
  at_kind kind at = is_some_and (input_unit_at w at) (has_kind kind)

  -- Tests that agree with the listed keys on each 16-bit unit find the same first offset.
  agree : (pairs : Bool) (test asks : ℕ → Bool) (len from end : ℕ) (found : Option ℕ) → ((at : ℕ) → test at ≡ is_some_and (input_unit_at w at) asks)
      → ((unit : ℕ) → unit < 0x1_0000 → asks unit ≡ ((pairs && may_begin_surrogate_pair (key true unit)) || contains (take len keys) (key true unit)))
      → IsFirstPassingOffset test from end found → IsFirstPassingOffset (unit_has_listed_key pairs (listing keys len) w) from end found
  agree pairs test asks len from end found is same =
      first-same test (unit_has_listed_key pairs (listing keys len) w) from end found (λ at less. is at ∙ by at (input_unit_at w at) refl)
    where
      by : (at : ℕ) (o : Option ℕ) → input_unit_at w at ≡ o
          → is_some_and o asks ≡ is_some_and o (λ unit. (pairs && may_begin_surrogate_pair (key true unit)) || contains (take len keys) (key true unit))
      by at None there = refl
      by at (Some u) there = same u (fits-16-bits (is_16_bit_encoding w.encoding) u (unit-fits w.encoding w.text has at u there))

  first-agree : (pairs : Bool) (test asks : ℕ → Bool) (len from end : ℕ) (found : Option ℕ) → end ≡ units w.text → ((at : ℕ) → test at ≡ is_some_and (input_unit_at w at) asks)
      → ((unit : ℕ) → unit < 0x1_0000 → asks unit ≡ ((pairs && may_begin_surrogate_pair (key true unit)) || contains (take len keys) (key true unit)))
      → IsFirstPassingOffset test from end found → IsFirstPassingOffset (unit_has_listed_key pairs (listing keys len) w) from (units w.text) found
  first-agree pairs test asks len from end found ends is same first =
      subst (λ to. IsFirstPassingOffset (unit_has_listed_key pairs (listing keys len) w) from to found) ends (agree pairs test asks len from end found is same first)

  module _ (from end : ℕ) (found : Option ℕ) where
    pub first-one : (a : UnitBits) → contains (take 1 keys) 128 ≡ false → Tells a 0 → IsFirstPassingOffset (at_kind a) from end found
        → IsFirstPassingOffset (unit_has_listed_key false (listing keys 1) w) from end found
    first-one a out tells =
        let a128 = not128 (get_or keys 0 0) (sym (listed-one keys 128 three) ∙ out) in
        agree false (at_kind a) (has_kind a) 1 from end found (λ at. refl)
        (λ unit small. tells a128 unit small ∙ sym (listed-one keys (key true unit) three))

    pub first-two : (a b : UnitBits) → contains (take 2 keys) 128 ≡ false → Tells a 0 → Tells b 1 → IsFirstPassingOffset (λ at. at_kind a at || at_kind b at) from end found
        → IsFirstPassingOffset (unit_has_listed_key false (listing keys 2) w) from end found
    first-two a b out tells_a tells_b =
        let outs = or_parts (128 == get_or keys 0 0) (128 == get_or keys 1 0) (sym (listed-two keys 128 three) ∙ out) in
        agree false (λ at. at_kind a at || at_kind b at) (λ u. has_kind a u || has_kind b u) 2 from end found
        (λ at. either-of (input_unit_at w at) (has_kind a) (has_kind b))
        (λ unit small. (λ i. tells_a (not128 (get_or keys 0 0) outs.0) unit small i || tells_b (not128 (get_or keys 1 0) outs.1) unit small i)
        ∙ sym (listed-two keys (key true unit) three))

    pub first-three : (len : ℕ) → 3 ≤ len → (a b c : UnitBits) → contains (take len keys) 128 ≡ false → Tells a 0 → Tells b 1 → Tells c 2
        → IsFirstPassingOffset (λ at. (at_kind a at || at_kind b at) || at_kind c at) from end found → IsFirstPassingOffset (unit_has_listed_key false (listing keys len) w) from end found
    first-three len most a b c out tells_a tells_b tells_c =
        let outs = or_parts (128 == get_or keys 0 0) (128 == get_or keys 1 0 || 128 == get_or keys 2 0) (sym (listed-three keys len 128 three most) ∙ out) in
        let last = or_parts (128 == get_or keys 1 0) (128 == get_or keys 2 0) outs.1 in
        agree false (λ at. (at_kind a at || at_kind b at) || at_kind c at) (λ u. (has_kind a u || has_kind b u) || has_kind c u) len from end found
        (λ at. ap (λ x. x || at_kind c at) (either-of (input_unit_at w at) (has_kind a) (has_kind b)) ∙ either-of (input_unit_at w at) (λ u. has_kind a u || has_kind b u) (has_kind c))
        (λ unit small. (λ i. (tells_a (not128 (get_or keys 0 0) outs.0) unit small i || tells_b (not128 (get_or keys 1 0) last.0) unit small i) || tells_c (not128 (get_or keys 2 0) last.1) unit small i)
        ∙ or-assoc (key true unit == get_or keys 0 0) (key true unit == get_or keys 1 0) (key true unit == get_or keys 2 0)
        ∙ sym (listed-three keys len (key true unit) three most))

  -- ---- With units that may begin a pair

  module _ (from end : ℕ) (found : Option ℕ) (ends : end ≡ units w.text) where
    abbrev has_pair : ℕ → Bool
    has_pair = has_bits 0xFC00 0xD800

    abbrev at_pair : ℕ → Bool
    at_pair at = is_some_and (input_unit_at w at) has_pair

    pub pair-none : IsFirstPassingOffset at_pair from end found → IsFirstPassingOffset (unit_has_listed_key true (listing keys 0) w) from (units w.text) found
    pair-none =
        first-agree true at_pair has_pair 0 from end found ends (λ at. refl)
        (λ unit small. pair-told unit small ∙ or-none (may_begin_surrogate_pair (key true unit)))

    pub pair-one : (a : UnitBits) → contains (take 1 keys) 128 ≡ false → Tells a 0 → IsFirstPassingOffset (λ at. at_pair at || at_kind a at) from end found
        → IsFirstPassingOffset (unit_has_listed_key true (listing keys 1) w) from (units w.text) found
    pair-one a out tells =
        let a128 = not128 (get_or keys 0 0) (sym (listed-one keys 128 three) ∙ out) in
        first-agree true (λ at. at_pair at || at_kind a at) (λ u. has_pair u || has_kind a u) 1 from end found ends (λ at. either-of (input_unit_at w at) has_pair (has_kind a))
        (λ unit small. (λ i. pair-told unit small i || (tells a128 unit small ∙ sym (listed-one keys (key true unit) three)) i))

    pub pair-two : (a b : UnitBits) → contains (take 2 keys) 128 ≡ false → Tells a 0 → Tells b 1 → IsFirstPassingOffset (λ at. (at_pair at || at_kind a at) || at_kind b at) from end found
        → IsFirstPassingOffset (unit_has_listed_key true (listing keys 2) w) from (units w.text) found
    pair-two a b out tells_a tells_b =
        let outs = or_parts (128 == get_or keys 0 0) (128 == get_or keys 1 0) (sym (listed-two keys 128 three) ∙ out) in
        first-agree true (λ at. (at_pair at || at_kind a at) || at_kind b at) (λ u. (has_pair u || has_kind a u) || has_kind b u) 2 from end found ends
        (λ at. ap (λ x. x || at_kind b at) (either-of (input_unit_at w at) has_pair (has_kind a)) ∙ either-of (input_unit_at w at) (λ u. has_pair u || has_kind a u) (has_kind b))
        (λ unit small. (λ i. (pair-told unit small i || tells_a (not128 (get_or keys 0 0) outs.0) unit small i) || tells_b (not128 (get_or keys 1 0) outs.1) unit small i)
        ∙ or-assoc (may_begin_surrogate_pair (key true unit)) (key true unit == get_or keys 0 0) (key true unit == get_or keys 1 0)
        ∙ ap (λ x. may_begin_surrogate_pair (key true unit) || x) (sym (listed-two keys (key true unit) three)))

    pub pair-three : (len : ℕ) → 3 ≤ len → (a b c : UnitBits) → contains (take len keys) 128 ≡ false → Tells a 0 → Tells b 1 → Tells c 2
        → IsFirstPassingOffset (λ at. ((at_pair at || at_kind a at) || at_kind b at) || at_kind c at) from end found → IsFirstPassingOffset (unit_has_listed_key true (listing keys len) w) from (units w.text) found
    pair-three len most a b c out tells_a tells_b tells_c =
        let outs = or_parts (128 == get_or keys 0 0) (128 == get_or keys 1 0 || 128 == get_or keys 2 0) (sym (listed-three keys len 128 three most) ∙ out) in
        let last = or_parts (128 == get_or keys 1 0) (128 == get_or keys 2 0) outs.1 in
        first-agree true (λ at. ((at_pair at || at_kind a at) || at_kind b at) || at_kind c at) (λ u. ((has_pair u || has_kind a u) || has_kind b u) || has_kind c u) len from end found ends
        (λ at. ap (λ x. (x || at_kind b at) || at_kind c at) (either-of (input_unit_at w at) has_pair (has_kind a))
        ∙ ap (λ x. x || at_kind c at) (either-of (input_unit_at w at) (λ u. has_pair u || has_kind a u) (has_kind b))
        ∙ either-of (input_unit_at w at) (λ u. (has_pair u || has_kind a u) || has_kind b u) (has_kind c))
        (λ unit small. (λ i. ((pair-told unit small i || tells_a (not128 (get_or keys 0 0) outs.0) unit small i) || tells_b (not128 (get_or keys 1 0) last.0) unit small i) || tells_c (not128 (get_or keys 2 0) last.1) unit small i)
        ∙ or-assoc (may_begin_surrogate_pair (key true unit) || key true unit == get_or keys 0 0) (key true unit == get_or keys 1 0) (key true unit == get_or keys 2 0)
        ∙ or-assoc (may_begin_surrogate_pair (key true unit)) (key true unit == get_or keys 0 0) (key true unit == get_or keys 1 0 || key true unit == get_or keys 2 0)
        ∙ ap (λ x. may_begin_surrogate_pair (key true unit) || x) (sym (listed-three keys len (key true unit) three most)))
