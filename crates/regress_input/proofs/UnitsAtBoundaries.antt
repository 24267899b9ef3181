-- The code units at a boundary are those of the character that begins there or ends there.
use Rattle.std.proofs.Common.{◌≡◌, ℕ, zero, suc, ◌+◌, ◌-◌, ◌/◌, ◌<◌, ◌≤◌, ◌⊎◌, inl, inr, Bool, true, false, cond, not, ◌&&◌, List, [], ◌∷◌, ◌++◌, length, map, take, drop, flat_map, slice_get}
use Rattle.std.proofs.Common.{slice_index, nat_le, nat_lt, nat_eq, is_some, position, Some, None, refl}
use Rattle.std.proofs.Common.{sym, ◌∙◌, ap, ap₂, arith, eq-eqb, ne_eqb, le-leb, lt-ltb, le-ltb, take-append-drop, take_all}
use Rattle.std.proofs.lemmas.Bool.{lt-leb, cases_Bool, cases_lt}
use Rattle.std.proofs.lemmas.List.{append-nil}
use Rattle.std.proofs.lemmas.List.Concat.{flat_map-append}
use Rattle.std.specs.List.{position_or_len, list_any}
use lib.Utf8.{encode, next}
use Rattle.regex_meaning.specs.NumberListHelpers.{contains}
use Rattle.regex_meaning.specs.Text.{Text, rightwards, leftwards, offsets_from}
use Rattle.regex_meaning.specs.CodeUnitOffsets.{HasRisingPlaceOffsets, offset, units, place_at, read}
use Rattle.regex_meaning.specs.CodeUnits.{Encoding, utf8, code_units_of_character, text_units_in_encoding, HasOffsetsInEncoding}
use Rattle.regress_input.specs.Utf8.{is_continuation_byte}
use Rattle.regress_input.proofs.ListRangeLemmas.{get-cons}
use Rattle.regress_input.proofs.BoundaryPositions.{HasPlace, step_right, step_left}
use Rattle.regress_input.proofs.SpelledTextLemmas.{offset-spelling, offset-behind}
use Rattle.regress_input.proofs.Utf8Reads.{encode_two, encode_three, encode_four}
use Rattle.regex_meaning.proofs.FirstByteOfCharacter.{encode-1}
use Rattle.regex_meaning.proofs.ListLemmas.{get-front, get-behind}
use Rattle.regex_meaning.proofs.CodeUnitLengthLemmas.{has-unit}
use Rattle.regex_meaning.proofs.UnitBoundaryLemmas.{none-before}

-- ---- All encodings

abbrev width : Encoding → ℕ → ℕ
width e c = length (code_units_of_character e c)

module _ (e : Encoding) (text : Text) (s : HasOffsetsInEncoding e text) where
  abbrev cs : List ℕ
  cs = text.characters

  abbrev spell : List ℕ → List ℕ
  spell = flat_map (code_units_of_character e)

  -- An offset is the number of the units before it.
  pub offset-units : (k : ℕ) → k ≤ length cs → offset text k ≡ length (spell (take k cs))
  offset-units k l =
      ap (λ (os : List ℕ). slice_index os k) s.offsets
      ∙ offset-spelling (code_units_of_character e) (width e) (λ c. refl) 0 cs k l ∙ omega arith

  -- The length of the text is the number of its units.
  pub units-length : units text ≡ length (text_units_in_encoding e text)
  units-length = offset-units (length cs) (omega arith) ∙ ap (λ l. length (spell l)) (take_all (length cs) cs (omega arith))

  -- Neighbouring offsets differ by the number of units of the character between them.
  pub offset-next : (k c : ℕ) → slice_get cs k ≡ Some c → offset text (suc k) ≡ offset text k + length (code_units_of_character e c)
  offset-next k c g =
      ap (λ (os : List ℕ). slice_index os (suc k)) s.offsets
      ∙ offset-behind (code_units_of_character e) (width e) (λ d. refl) 0 cs k c g
      ∙ ap (λ (os : List ℕ). slice_index os k + length (code_units_of_character e c)) (sym s.offsets)

  -- The units of a character stand from the offset of its place on.
  pub unit-at : (k c i : ℕ) → slice_get cs k ≡ Some c → k ≤ length cs → i < length (code_units_of_character e c)
      → slice_get (text_units_in_encoding e text) (offset text k + i) ≡ slice_get (code_units_of_character e c) i
  unit-at k c i g l m =
      let parts : spell cs ≡ spell (take k cs) ++ (code_units_of_character e c ++ spell (drop (suc k) cs)) =
      ap spell (sym (take-append-drop k cs)) ∙ flat_map-append (code_units_of_character e) (take k cs) (drop k cs)
      ∙ ap (λ x. spell (take k cs) ++ spell x) (get-cons cs k c g) in
      ap₂ (λ us at. slice_get us (at + i)) parts (offset-units k l)
      ∙ get-behind (spell (take k cs)) (code_units_of_character e c ++ spell (drop (suc k) cs)) i
      ∙ get-front (code_units_of_character e c) (spell (drop (suc k) cs)) i m

  -- At the place of a character its first unit stands, and the next place is behind its units.
  unit-from : (place c at to : ℕ) → HasPlace text at place → HasPlace text to (suc place) → slice_get text.characters place ≡ Some c
      → (slice_get (text_units_in_encoding e text) at ≡ slice_get (code_units_of_character e c) 0) × (to ≡ at + length (code_units_of_character e c))
  unit-from place c at to from upto there =
      let zero_on : at ≡ offset text place + 0 = omega (arith, from.offset_is) in (
        ap (slice_get (text_units_in_encoding e text)) zero_on ∙ unit-at place c 0 there from.within (has-unit e c),
        sym upto.offset_is ∙ offset-next place c there ∙ ap (λ n. n + length (code_units_of_character e c)) from.offset_is,
      )

  -- A read to the right begins at the first unit of the character and ends behind its units.
  pub unit-right : HasRisingPlaceOffsets text → (at c to : ℕ) → read text rightwards at ≡ Some (c, to)
      → (slice_get (text_units_in_encoding e text) at ≡ slice_get (code_units_of_character e c) 0) × (to ≡ at + length (code_units_of_character e c))
  unit-right t at c to r = let step = step_right text t at c to r in unit-from step.place c at to step.from step.upto step.character

  -- A read to the left ends at the first unit of the character and begins behind its units.
  pub unit-left : HasRisingPlaceOffsets text → (at c to : ℕ) → read text leftwards at ≡ Some (c, to)
      → (slice_get (text_units_in_encoding e text) to ≡ slice_get (code_units_of_character e c) 0) × (at ≡ to + length (code_units_of_character e c))
  unit-left t at c to r = let step = step_left text t at c to r in unit-from step.place c to at step.upto step.from step.character

-- ---- Continuation bytes and boundaries in UTF-8

false_below : (b : ℕ) → b < 128 → is_continuation_byte b ≡ false
false_below b l = ap (λ (t : Bool). t && nat_le b 0xBF) (lt-leb 128 b l)

false_above : (b : ℕ) → 192 ≤ b → is_continuation_byte b ≡ false
false_above b l = ap₂ (λ (t u : Bool). t && u) (le-leb 128 b (omega arith)) (lt-leb b 0xBF (omega arith))

next-continues : (x : ℕ) → is_continuation_byte (next x) ≡ true
next-continues x = ap₂ (λ (t u : Bool). t && u) (le-leb 128 (next x) (omega arith)) (le-leb (next x) 0xBF (omega arith))

-- A byte of a character continues the character if it is not the first byte.
abbrev is_further : ℕ → Bool
is_further zero = false
is_further (suc i) = true

byte-of : (c i b : ℕ) → slice_get (encode c) i ≡ Some b → is_continuation_byte b ≡ is_further i
byte-of c i b g = by (cases_lt c 128) (cases_lt c 2048) (cases_lt c 65536)
  where
    is : (x : ℕ) (t : Bool) → Some x ≡ Some b → is_continuation_byte x ≡ t → is_continuation_byte b ≡ t
    is x t e h = let same : x ≡ b = cc in ap is_continuation_byte (sym same) ∙ h

    seen : (p : List ℕ) → encode c ≡ p → slice_get p i ≡ Some b
    seen p e = ap (λ l. slice_get l i) (sym e) ∙ g

    one : (i : ℕ) → c < 128 → slice_get (c ∷ []) i ≡ Some b → is_continuation_byte b ≡ is_further i
    one zero l e = is c false e (false_below c l)
    one (suc i) l e = absurd (cc)

    two : (i x y : ℕ) → 192 ≤ x → slice_get (x ∷ next y ∷ []) i ≡ Some b → is_continuation_byte b ≡ is_further i
    two zero x y l e = is x false e (false_above x l)
    two (suc zero) x y l e = is (next y) true e (next-continues y)
    two (suc (suc i)) x y l e = absurd (cc)

    three : (i x y z : ℕ) → 192 ≤ x → slice_get (x ∷ next y ∷ next z ∷ []) i ≡ Some b → is_continuation_byte b ≡ is_further i
    three zero x y z l e = is x false e (false_above x l)
    three (suc zero) x y z l e = is (next y) true e (next-continues y)
    three (suc (suc zero)) x y z l e = is (next z) true e (next-continues z)
    three (suc (suc (suc i))) x y z l e = absurd (cc)

    four : (i x y z v : ℕ) → 192 ≤ x → slice_get (x ∷ next y ∷ next z ∷ next v ∷ []) i ≡ Some b → is_continuation_byte b ≡ is_further i
    four zero x y z v l e = is x false e (false_above x l)
    four (suc zero) x y z v l e = is (next y) true e (next-continues y)
    four (suc (suc zero)) x y z v l e = is (next z) true e (next-continues z)
    four (suc (suc (suc zero))) x y z v l e = is (next v) true e (next-continues v)
    four (suc (suc (suc (suc i)))) x y z v l e = absurd (cc)

    by : (c < 128) ⊎ (128 ≤ c) → (c < 2048) ⊎ (2048 ≤ c) → (c < 65536) ⊎ (65536 ≤ c) → is_continuation_byte b ≡ is_further i
    by (inl l) _ _ = one i l (seen _ (encode-1 c l))
    by (inr l) (inl h) _ = two i _ c (omega arith) (seen _ (encode_two c l h))
    by (inr _) (inr l) (inl h) = three i _ (c / 64) c (omega arith) (seen _ (encode_three c l h))
    by (inr _) (inr _) (inr l) = four i _ (c / 4096) (c / 64) c (omega arith) (seen _ (encode_four c l))

-- The offset of a byte is the offset of a character exactly if the byte continues no character.
among : (cs : List ℕ) (a i b : ℕ) → slice_get (flat_map (code_units_of_character utf8) cs) i ≡ Some b
    → contains (offsets_from a (map (λ c. length (code_units_of_character utf8 c)) cs)) (a + i) ≡ not (is_continuation_byte b)
among [] a i b g = absurd (cc)
among (c ∷ cs) a i b g = by (cases_lt i (length (code_units_of_character utf8 c))) (λ j rest. among cs (a + length (code_units_of_character utf8 c)) j b rest)
  where
    w : ℕ
    w = length (code_units_of_character utf8 c)

    behind : List ℕ
    behind = offsets_from (a + w) (map (λ c. length (code_units_of_character utf8 c)) cs)

    here : (i : ℕ) → i < w → slice_get (code_units_of_character utf8 c) i ≡ Some b → contains (a ∷ behind) (a + i) ≡ not (is_continuation_byte b)
    here zero l e =
        rw (eq-eqb (a + 0) a (omega arith)) (sym (ap not (byte-of c 0 b (ap (λ x. slice_get x 0) (sym (append-nil (encode c))) ∙ e))))
    here (suc i) l e =
        rw (ne_eqb (a + suc i) a (omega arith))
        (none-before (map (λ c. length (code_units_of_character utf8 c)) cs) (a + w) (a + suc i) (omega arith)
        ∙ sym (ap not (byte-of c (suc i) b (ap (λ x. slice_get x (suc i)) (sym (append-nil (encode c))) ∙ e))))

    by : (i < w) ⊎ (w ≤ i) → ((j : ℕ) → slice_get (flat_map (code_units_of_character utf8) cs) j ≡ Some b → contains behind (a + w + j) ≡ not (is_continuation_byte b))
        → contains (a ∷ behind) (a + i) ≡ not (is_continuation_byte b)
    by (inl l) more = here i l (sym (get-front (code_units_of_character utf8 c) (flat_map (code_units_of_character utf8) cs) i l) ∙ g)
    by (inr l) more =
        let back : i ≡ w + (i - w) = omega arith in
        let some : 0 < w = has-unit utf8 c in
        let on : a + i ≡ a + w + (i - w) = omega arith in
        let rest : slice_get (flat_map (code_units_of_character utf8) cs) (i - w) ≡ Some b =
        sym (get-behind (code_units_of_character utf8 c) (flat_map (code_units_of_character utf8) cs) (i - w)) ∙ ap (slice_get (code_units_of_character utf8 c ++ flat_map (code_units_of_character utf8) cs)) (sym back) ∙ g in
        rw (ne_eqb (a + i) a (omega arith)) (ap (contains behind) on ∙ more (i - w) rest)

-- A list has a first number that passes a test exactly if some number of the list passes.
some-position : (test : ℕ → Bool) (xs : List ℕ) → is_some (position test xs) ≡ list_any test xs
some-position test xs = some-is (nat_lt (position_or_len test xs) (length xs)) _ ∙ sym (found test xs)
  where
    some-is : (b : Bool) (n : ℕ) → is_some (cond b (Some n) None) ≡ b
    some-is true n = refl
    some-is false n = refl

    step : (m n : ℕ) → nat_lt m n ≡ nat_lt (1 + m) (suc n)
    step m n = by (cases_lt m n)
      where
        by : (m < n) ⊎ (n ≤ m) → nat_lt m n ≡ nat_lt (1 + m) (suc n)
        by (inl l) = lt-ltb m n l ∙ sym (lt-ltb (1 + m) (suc n) (omega arith))
        by (inr l) = le-ltb m n l ∙ sym (le-ltb (1 + m) (suc n) (omega arith))

    found : (test : ℕ → Bool) (xs : List ℕ) → list_any test xs ≡ nat_lt (position_or_len test xs) (length xs)
    found test [] = refl
    found test (x ∷ xs) = elim (cases_Bool (test x)) [
      | inl e ↦ rw e (sym (lt-ltb 0 (suc (length xs)) (omega arith)))
      | inr e ↦ rw e (found test xs ∙ step (position_or_len test xs) (length xs))
    ]

-- An offset at which a byte stands is a boundary exactly if the byte continues no character.
pub boundary-byte : (text : Text) → HasOffsetsInEncoding utf8 text → (at b : ℕ) → slice_get (text_units_in_encoding utf8 text) at ≡ Some b
    → is_some (place_at text at) ≡ not (is_continuation_byte b)
boundary-byte text s at b g =
    let zero_on : at ≡ 0 + at = omega arith in
    some-position (nat_eq at) text.offsets ∙ ap (λ os. contains os at) s.offsets
    ∙ ap (contains (offsets_from 0 (map (λ c. length (code_units_of_character utf8 c)) text.characters))) zero_on ∙ among text.characters 0 at b g
