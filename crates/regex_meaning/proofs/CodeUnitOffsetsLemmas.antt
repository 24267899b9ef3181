-- Offsets increase with positions, and the boundaries are the offsets of positions.
use Rattle.std.proofs.Common.{◌≡◌, ℕ, zero, suc, ◌+◌, ◌<◌, ◌≤◌, Bool, List, [], ◌∷◌, length, map, get_or, Option, Some, None, refl, le_refl, sym, ap, arith, lt-ltb, eqb-true, eq-eqb, ne_eqb, nat_eq}
use Rattle.std.proofs.Common.{position, is_some, IsTrue}
use Rattle.std.proofs.lemmas.Bool.{cases_lt, cases_order}
use mathlib.Core.Logic.{inl, inr}
use Rattle.std.proofs.lemmas.List.Sums.{position_or_len_is}
use Rattle.std.proofs.lemmas.List.Quantifiers.{position-Some}
use Rattle.std.specs.List.{position_or_len}
use Rattle.std.specs.Char.{len_utf8}
use Rattle.std.specs.Str.{chars}
use Rattle.regex_meaning.specs.Text.{Text, last_place, offsets_from, width_of_single_unit_character, fold_char, fold_ascii, fold_code_point, utf16_width, utf16_characters, utf8_text, ascii_text}
use Rattle.regex_meaning.specs.Text.{utf16_text, ucs2_text}
use Rattle.regex_meaning.specs.CodeUnitOffsets.{IsStrictlyIncreasing, HasRisingPlaceOffsets, offset, units, place_at, IsBoundary}

-- ---- Rising lists

rises-first : (x : ℕ) (xs : List ℕ) (j : ℕ) → IsStrictlyIncreasing (x ∷ xs) → j < length xs → x < get_or xs j 0
rises-first x [] j h less = absurd (omega arith)
rises-first x (y ∷ ys) zero h less = h.0
rises-first x (y ∷ ys) (suc j) h less = let later = rises-first y ys j h.1 (omega arith) in omega arith

rises-rest : (x : ℕ) (xs : List ℕ) → IsStrictlyIncreasing (x ∷ xs) → IsStrictlyIncreasing xs
rises-rest x [] h = tt
rises-rest x (y ∷ ys) h = h.1

-- In a rising list, the number at a later position is greater.
pub rises-less : (xs : List ℕ) (i j : ℕ) → IsStrictlyIncreasing xs → i < j → j < length xs → get_or xs i 0 < get_or xs j 0
rises-less [] i j h less inside = absurd (omega arith)
rises-less (x ∷ xs) i zero h less inside = absurd (omega arith)
rises-less (x ∷ xs) zero (suc j) h less inside = rises-first x xs j h (omega arith)
rises-less (x ∷ xs) (suc i) (suc j) h less inside = rises-less xs i j (rises-rest x xs h) (omega arith) (omega arith)

-- In a rising list, a number is found at the position where it stands.
pub position-rises : (xs : List ℕ) (i : ℕ) → IsStrictlyIncreasing xs → i < length xs → position (nat_eq (get_or xs i 0)) xs ≡ Some i
position-rises xs i h inside =
    let at : position_or_len (nat_eq (get_or xs i 0)) xs ≡ i =
    position_or_len_is (nat_eq (get_or xs i 0)) xs i 0 (omega arith)
    (λ k less. let before = rises-less xs k i h less inside in ne_eqb (get_or xs i 0) (get_or xs k 0) (omega arith))
    (λ _. eq-eqb (get_or xs i 0) (get_or xs i 0) refl) in
    rw (at, lt-ltb i (length xs) inside)

-- ---- Options

there : (o : Option ℕ) → IsTrue (is_some o) → (p : ℕ) × (o ≡ Some p)
there None h = absurd (grind arith)
there (Some p) h = (p, refl)

none-unless : (o : Option ℕ) → ((p : ℕ) → o ≡ Some p → ⊥) → o ≡ None
none-unless None h = refl
none-unless (Some p) h = absurd (h p refl)

-- ---- Places and offsets

module _ (text : Text) where
  -- The offset of a later place is greater.
  pub offset-less : (p q : ℕ) → HasRisingPlaceOffsets text → p < q → q ≤ last_place text → offset text p < offset text q
  offset-less p q is less inside = let all = is.one_offset_per_place in rises-less text.offsets p q is.rises less (omega arith)

  pub offset-le : (p q : ℕ) → HasRisingPlaceOffsets text → p ≤ q → q ≤ last_place text → offset text p ≤ offset text q
  offset-le p q is le inside = elim (cases_lt p q) [
    | inl less ↦ let l = offset-less p q is less inside in omega arith
    | inr more ↦ let e : p ≡ q = omega arith in rw e (le_refl (offset text q))
  ]

  -- Places with the same offset are equal.
  pub offset-injective : (p q : ℕ) → HasRisingPlaceOffsets text → p ≤ last_place text → q ≤ last_place text → offset text p ≡ offset text q → p ≡ q
  offset-injective p q is at_p at_q e = elim (cases_order p q) [
    | inl same ↦ same
    | inr (inl less) ↦ let l = offset-less p q is less at_q in absurd (omega arith)
    | inr (inr more) ↦ let l = offset-less q p is more at_p in absurd (omega arith)
  ]

  -- A place with a lower offset is an earlier place.
  pub place-less : (p q : ℕ) → HasRisingPlaceOffsets text → p ≤ last_place text → q ≤ last_place text → offset text p < offset text q → p < q
  place-less p q is at_p at_q less = elim (cases_lt p q) [
    | inl l ↦ l
    | inr le ↦ let l = offset-le q p is le at_p in absurd (omega arith)
  ]

  pub place-le : (p q : ℕ) → HasRisingPlaceOffsets text → p ≤ last_place text → q ≤ last_place text → offset text p ≤ offset text q → p ≤ q
  place-le p q is at_p at_q le = elim (cases_lt q p) [
    | inl less ↦ let l = offset-less q p is less at_p in absurd (omega arith)
    | inr l ↦ l
  ]

  -- The place at the offset of a place is that place.
  pub place_at-offset : (p : ℕ) → HasRisingPlaceOffsets text → p ≤ last_place text → place_at text (offset text p) ≡ Some p
  place_at-offset p is inside = let all = is.one_offset_per_place in position-rises text.offsets p is.rises (omega arith)

  -- The offset of the place at an offset is that offset, and the place is within the text.
  pub offset-place_at : (at p : ℕ) → HasRisingPlaceOffsets text → place_at text at ≡ Some p → (offset text p ≡ at) × (p ≤ last_place text)
  offset-place_at at p is e =
      let found = position-Some (nat_eq at) text.offsets p 0 e in
      let all = is.one_offset_per_place in
      (sym (eqb-true at (offset text p) found.1), omega arith)

  -- The offset of a place is a boundary.
  pub offset-IsBoundary : (p : ℕ) → HasRisingPlaceOffsets text → p ≤ last_place text → IsBoundary text (offset text p)
  offset-IsBoundary p is inside = ap is_some (place_at-offset p is inside)

  -- A boundary is the offset of a place of the text.
  pub IsBoundary-place : (at : ℕ) → HasRisingPlaceOffsets text → IsBoundary text at
      → (p : ℕ) × (place_at text at ≡ Some p) × (offset text p ≡ at) × (p ≤ last_place text)
  IsBoundary-place at is h =
      let e = there (place_at text at) h in
      let o = offset-place_at at e.0 is e.1 in
      (e.0, e.1, o.0, o.1)

  -- No place has an offset past the end of the text.
  pub place_at-past : (at : ℕ) → HasRisingPlaceOffsets text → units text < at → place_at text at ≡ None
  place_at-past at is past = none-unless (place_at text at) (λ p e.
      let o = offset-place_at at p is e in
      let l = offset-le p (last_place text) is o.1 (le_refl (last_place text)) in
      omega arith)

-- ---- The texts of the four encodings

module _ (width : ℕ → ℕ) where
  rises-from_place : (cs : List ℕ) (at below : ℕ) → ((c : ℕ) → 0 < width c) → below < at → IsStrictlyIncreasing (below ∷ offsets_from at (map width cs))
  rises-from_place [] at below wide less = (less, tt)
  rises-from_place (c ∷ cs) at below wide less =
      let w = wide c in (less, rises-from_place cs (at + width c) at wide (omega arith))

  -- Offsets rise if each character has a positive width.
  pub offsets-rise : (cs : List ℕ) (at : ℕ) → ((c : ℕ) → 0 < width c) → IsStrictlyIncreasing (offsets_from at (map width cs))
  offsets-rise [] at wide = tt
  offsets-rise (c ∷ cs) at wide = let w = wide c in rises-from_place cs (at + width c) at wide (omega arith)

  pub length-offsets : (cs : List ℕ) (at : ℕ) → length (offsets_from at (map width cs)) ≡ length cs + 1
  length-offsets [] at = refl
  length-offsets (c ∷ cs) at = let more = length-offsets cs (at + width c) in omega arith

  pub first-offset : (cs : List ℕ) (at : ℕ) → get_or (offsets_from at (map width cs)) 0 0 ≡ at
  first-offset [] at = refl
  first-offset (c ∷ cs) at = refl

pub width_of_single_unit_character-positive : (c : ℕ) → 0 < width_of_single_unit_character c
width_of_single_unit_character-positive c = omega arith

pub len_utf8-positive : (c : ℕ) → 0 < len_utf8 c
len_utf8-positive c = grind arith

pub utf16_width-positive : (c : ℕ) → 0 < utf16_width c
utf16_width-positive c = grind arith

-- A text of these characters has rising offsets if each width is positive.
spaced-IsText : (width : ℕ → ℕ) (cs : List ℕ) (unicode : Bool) (fold : ℕ → ℕ) → ((c : ℕ) → 0 < width c)
    → HasRisingPlaceOffsets (record { characters = cs; offsets = offsets_from 0 (map width cs); unicode = unicode; fold = fold })
spaced-IsText width cs unicode fold wide = record {
  from_zero = first-offset width cs 0;
  rises = offsets-rise width cs 0 wide;
  one_offset_per_place = length-offsets width cs 0;
}

pub utf8_text-IsText : (bytes : List ℕ) (unicode : Bool) → HasRisingPlaceOffsets (utf8_text bytes unicode)
utf8_text-IsText bytes unicode = spaced-IsText len_utf8 (chars bytes) unicode (fold_char unicode) len_utf8-positive

pub ascii_text-IsText : (bytes : List ℕ) (unicode : Bool) → HasRisingPlaceOffsets (ascii_text bytes unicode)
ascii_text-IsText bytes unicode = spaced-IsText width_of_single_unit_character bytes unicode (fold_ascii unicode) width_of_single_unit_character-positive

pub utf16_text-IsText : (units : List ℕ) (unicode : Bool) → HasRisingPlaceOffsets (utf16_text units unicode)
utf16_text-IsText units unicode = spaced-IsText utf16_width (utf16_characters units) unicode (fold_code_point unicode) utf16_width-positive

pub ucs2_text-IsText : (units : List ℕ) (unicode : Bool) → HasRisingPlaceOffsets (ucs2_text units unicode)
ucs2_text-IsText units unicode = spaced-IsText width_of_single_unit_character units unicode (fold_code_point unicode) width_of_single_unit_character-positive
