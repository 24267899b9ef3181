-- The code unit at the offset of a position is the first unit of the next character.
use Rattle.std.proofs.Common.{◌≡◌, ◌<◌, ◌≤◌, ℕ, zero, suc, ◌+◌, ◌-◌, List, [], ◌∷◌, ◌++◌, Some, Bool, true, refl, ap, ◌∙◌, sym, arith, slice_get, length, map, drop, get_or, append-nil}
use Rattle.std.specs.Prelude.{flat_map, option_and_then, encode_utf8_all, nat_eq}
use Rattle.std.specs.Char.{encode_utf8 as encode}
use Rattle.std.specs.List.{list_all, starts_with}
use Rattle.regex_meaning.specs.Text.{Text, rightwards, next_character, offsets_from}
use Rattle.regex_meaning.specs.CodeUnitOffsets.{HasRisingPlaceOffsets, offset, place_at}
use Rattle.regex_meaning.specs.CodeUnits.{Encoding, utf8, code_units_of_character, text_units_in_encoding, HasOffsetsInEncoding}
use Rattle.regex_meaning.proofs.CodeUnitOffsetsLemmas.{offset-place_at}
use Rattle.std.proofs.lemmas.Bool.{eqb-true}
use Rattle.regex_meaning.proofs.BoolLemmas.{and-left, and-right}
use Rattle.regex_meaning.proofs.ListLemmas.{get-behind}
use Rattle.regex_meaning.proofs.CodeUnitLengthLemmas.{has-unit}

-- ---- Lists

prefix-first : (xs ys : List ℕ) → 0 < length xs → slice_get (xs ++ ys) 0 ≡ slice_get xs 0
prefix-first [] ys some = absurd (omega (arith, some))
prefix-first (x ∷ xs) ys some = refl

pub slice_get-drop : (n : ℕ) (xs : List ℕ) → slice_get xs n ≡ slice_get (drop n xs) 0
slice_get-drop zero xs = refl
slice_get-drop (suc n) [] = refl
slice_get-drop (suc n) (x ∷ xs) = slice_get-drop n xs

-- An element of a list passes a test that all its elements pass.
pub passes-one : (p : ℕ → Bool) (xs : List ℕ) (i x : ℕ) → list_all p xs ≡ true → slice_get xs i ≡ Some x → p x ≡ true
passes-one p [] i x h e = cc
passes-one p (y ∷ ys) zero x h e = let same : y ≡ x = cc in ap p (sym same) ∙ and-left (p y) (list_all p ys) h
passes-one p (y ∷ ys) (suc i) x h e = passes-one p ys i x (and-right (p y) (list_all p ys) h) e

-- ---- Characters and their units

module _ (units : ℕ → List ℕ) (some : (c : ℕ) → 0 < length (units c)) where
  abbrev pub widths : List ℕ → List ℕ
  widths cs = map (λ c. length (units c)) cs

  pub offsets-from : (cs : List ℕ) (at p : ℕ) → p ≤ length cs → at ≤ get_or (offsets_from at (widths cs)) p 0
  offsets-from [] at zero le = omega arith
  offsets-from [] at (suc p) le = absurd (omega (arith, le))
  offsets-from (c ∷ cs) at zero le = omega arith
  offsets-from (c ∷ cs) at (suc p) le = let more = offsets-from cs (at + length (units c)) p (omega (arith, le)) in omega (arith, more)

  -- The offset behind a character is its own offset and the number of its units.
  pub offset-behind : (cs : List ℕ) (at p c : ℕ) → slice_get cs p ≡ Some c
      → get_or (offsets_from at (widths cs)) (suc p) 0 ≡ get_or (offsets_from at (widths cs)) p 0 + length (units c)
  offset-behind [] at p c e = cc
  offset-behind (d ∷ []) at zero c e = let same : d ≡ c = cc in ap (λ x. at + length (units x)) same
  offset-behind (d ∷ f ∷ cs) at zero c e = let same : d ≡ c = cc in ap (λ x. at + length (units x)) same
  offset-behind (d ∷ cs) at (suc p) c e = offset-behind cs (at + length (units d)) p c e

  -- The unit at the offset of a position is the first unit of the character at that position.
  units-at : (cs : List ℕ) (at n p : ℕ) → p ≤ length cs → get_or (offsets_from at (widths cs)) p 0 ≡ at + n
      → slice_get (flat_map units cs) n ≡ option_and_then (λ c. slice_get (units c) 0) (slice_get cs p)
  units-at [] at n zero le e = refl
  units-at [] at n (suc p) le e = absurd (omega (arith, le))
  units-at (c ∷ cs) at n zero le e =
      let none : n ≡ 0 = omega (arith, e) in
      ap (slice_get (units c ++ flat_map units cs)) none ∙ prefix-first (units c) (flat_map units cs) (some c)
  units-at (c ∷ cs) at n (suc p) le e =
      let least = offsets-from cs (at + length (units c)) p (omega (arith, le)) in
      let rest = n - length (units c) in
      let whole : n ≡ length (units c) + (n - length (units c)) = omega (arith, least, e) in
      ap (slice_get (units c ++ flat_map units cs)) whole
      ∙ get-behind (units c) (flat_map units cs) (n - length (units c))
      ∙ units-at cs (at + length (units c)) (n - length (units c)) p (omega (arith, le)) (e ∙ (let f : at + n ≡ at + length (units c) + (n - length (units c)) = omega (arith, whole) in f))

-- The unit at the offset of a place is the first unit of the next character, if there is one.
pub unit-there : (e : Encoding) (text : Text) → HasRisingPlaceOffsets text → HasOffsetsInEncoding e text → (at p : ℕ) → place_at text at ≡ Some p
    → slice_get (text_units_in_encoding e text) at ≡ option_and_then (λ c. slice_get (code_units_of_character e c) 0) (next_character text rightwards p)
unit-there e text is spelled at p here =
    let o = offset-place_at text at p is here in
    units-at (code_units_of_character e) (has-unit e) text.characters 0 at p o.1
    (ap (λ (os : List ℕ). get_or os p 0) (sym spelled.offsets) ∙ o.0 ∙ (let f : at ≡ 0 + at = omega arith in f))

-- The place behind a character of one unit has the next offset.
pub one-unit-on : (e : Encoding) (text : Text) → HasOffsetsInEncoding e text → (p c : ℕ) → slice_get text.characters p ≡ Some c → length (code_units_of_character e c) ≡ 1
    → offset text (p + 1) ≡ offset text p + 1
one-unit-on e text spelled p c is one =
    let n : p + 1 ≡ suc p = omega arith in
    ap (offset text) n ∙ ap (λ (os : List ℕ). get_or os (suc p) 0) spelled.offsets
    ∙ offset-behind (code_units_of_character e) (has-unit e) text.characters 0 p c is
    ∙ ap (λ (os : List ℕ). get_or os p 0 + length (code_units_of_character e c)) (sym spelled.offsets)
    ∙ ap (λ w. offset text p + w) one

-- ---- Bytes

pub units-bytes : (cs : List ℕ) → flat_map (code_units_of_character utf8) cs ≡ encode_utf8_all cs
units-bytes [] = refl
units-bytes (c ∷ cs) = ap (λ (l : List ℕ). l ++ flat_map (code_units_of_character utf8) cs) (append-nil (encode c)) ∙ ap (λ (l : List ℕ). encode c ++ l) (units-bytes cs)

started : (b : ℕ) (bytes ds : List ℕ) → starts_with nat_eq ds (b ∷ bytes) ≡ true → slice_get ds 0 ≡ Some b
started b bytes [] h = cc
started b bytes (d ∷ ds) h = let same : b ≡ d = eqb-true b d (and-left (nat_eq b d) (starts_with nat_eq ds bytes) h) in ap Some (sym same)

-- If bytes stand at an offset of a text, the first of them is the unit there.
pub byte-there : (text : Text) (at b : ℕ) (bytes : List ℕ) → starts_with nat_eq (drop at (encode_utf8_all text.characters)) (b ∷ bytes) ≡ true
    → slice_get (text_units_in_encoding utf8 text) at ≡ Some b
byte-there text at b bytes h =
    ap (λ (l : List ℕ). slice_get l at) (units-bytes text.characters) ∙ slice_get-drop at (encode_utf8_all text.characters)
    ∙ started b bytes (drop at (encode_utf8_all text.characters)) h
