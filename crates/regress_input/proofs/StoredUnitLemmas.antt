-- The units that an input stores are, as numbers, the code units of its text.
use Rattle.std.proofs.Common.{◌≡◌, ℕ, ◌+◌, ◌-◌, ◌<◌, ◌≤◌, List, [], ◌∷◌, length, map, take, drop, get_or, slice_get, slice_range, Bool, true, false, ◌&&◌, cond, nat_eq, nat_le, Option, Some, None}
use Rattle.std.proofs.Common.{option_map, refl, sym, ◌∙◌, ap, ap₂, subst}
use Rattle.std.proofs.lemmas.List.{length-map, map-id, take-map, drop-map}
use Rattle.std.proofs.lemmas.Option.{slice_get-map, slice_get-get_or}
use lib.Pointwise.{pointwise}
use Rattle.regex_meaning.specs.Text.{Text, Direction, rightwards, leftwards}
use Rattle.regex_meaning.specs.CodeUnitOffsets.{units, IsBoundary}
use Rattle.regex_meaning.specs.CodeUnits.{Encoding, utf8, utf16, ucs2, text_units_in_encoding, HasOffsetsInEncoding}
use Rattle.regress_input.specs.CharAndByteReadsFromOffset.{is_byte_encoding, bytes_if_byte_units, past_units_if_next, past_numbers_if_next, past_repeated_range_if_next}
use Rattle.regress_input.specs.TextCodeUnits.{as_bytes, unless_splitting_pair, UnitsOccurWhereCharactersDo}
use Rattle.regress_input.proofs.UnitsAtBoundaries.{units-length}
use Rattle.regress_input.proofs.UnitsOfInputTexts.{utf8-units}

-- If the units are held as numbers, these numbers are the units of the text.
pub numbers : (e : Encoding) (text : Text) (held us : List ℕ) → held ≡ us → text_units_in_encoding e text ≡ us → map (λ u. u) held ≡ text_units_in_encoding e text
numbers e text held us h w = map-id held ∙ h ∙ sym w

pub stand : (e : Encoding) (text : Text) (held us : List ℕ) → held ≡ us → UnitsOccurWhereCharactersDo e us text → UnitsOccurWhereCharactersDo e (map (λ u. u) held) text
stand e text held us h all = subst (λ l. UnitsOccurWhereCharactersDo e l text) (sym (map-id held ∙ h)) all

module _ {Unit : Type 0} (number : Unit → ℕ) where
  pub count-is : (e : Encoding) (text : Text) → HasOffsetsInEncoding e text → (held : List Unit) → map number held ≡ text_units_in_encoding e text → length held ≡ units text
  count-is e text s held h = sym (length-map held number) ∙ ap length h ∙ sym (units-length e text s)

  bytes-by : (e : Encoding) (text : Text) (held : List Unit) → map number held ≡ text_units_in_encoding e text → as_bytes (is_byte_encoding e) number held ≡ bytes_if_byte_units (is_byte_encoding e) text
  bytes-by utf8 text held h = ap Some (h ∙ utf8-units text.characters)
  bytes-by utf16 text held h = refl
  bytes-by ucs2 text held h = refl

  pub bytes-are : (e : Encoding) (is are : Bool) → is ≡ is_byte_encoding e → are ≡ is_byte_encoding e → (text : Text) (held : List Unit) → map number held ≡ text_units_in_encoding e text
      → as_bytes is number held ≡ bytes_if_byte_units are text
  bytes-are e is are a b text held h = ap (λ x. as_bytes x number held) a ∙ bytes-by e text held h ∙ ap (λ x. bytes_if_byte_units x text) (sym b)

  -- Lists of units are equal exactly if the lists of their numbers are.
  equal-as : (same : Unit → Unit → Bool) → ((a b : Unit) → same a b ≡ nat_eq (number a) (number b)) → (xs ys : List Unit)
      → pointwise same xs ys ≡ pointwise nat_eq (map number xs) (map number ys)
  equal-as same e [] [] = refl
  equal-as same e [] (y ∷ ys) = refl
  equal-as same e (x ∷ xs) [] = refl
  equal-as same e (x ∷ xs) (y ∷ ys) = ap₂ (λ s t. s && t) (e x y) (equal-as same e xs ys)

  pub range-map : (xs : List Unit) (a b : ℕ) → slice_range (map number xs) a b ≡ map number (slice_range xs a b)
  range-map xs a b = ap (take (b - a)) (drop-map number a xs) ∙ take-map number (b - a) (drop a xs)

  -- Units are found beside an offset exactly where their numbers are.
  pub stand-as : (same : Unit → Unit → Bool) → ((a b : Unit) → same a b ≡ nat_eq (number a) (number b)) → (all these : List Unit) (d : Direction) (at : ℕ)
      → past_units_if_next same all these d at ≡ past_numbers_if_next (map number all) (map number these) d at
  stand-as same e all these rightwards at =
      let n = length-map these number in
      ap (λ (t : Bool). cond (nat_le (at + length these) (length all) && t) (Some (at + length these)) None)
      (equal-as same e (slice_range all at (at + length these)) these ∙ ap (λ l. pointwise nat_eq l (map number these)) (sym (range-map all at (at + length these))))
      ∙ ap₂ (λ k m. cond (nat_le (at + k) m && pointwise nat_eq (slice_range (map number all) at (at + k)) (map number these)) (Some (at + k)) None) (sym n) (sym (length-map all number))
  stand-as same e all these leftwards at =
      let n = length-map these number in
      ap (λ (t : Bool). cond (nat_le (length these) at && t) (Some (at - length these)) None)
      (equal-as same e (slice_range all (at - length these) at) these ∙ ap (λ l. pointwise nat_eq l (map number these)) (sym (range-map all (at - length these) at)))
      ∙ ap (λ k. cond (nat_le k at && pointwise nat_eq (slice_range (map number all) (at - k) at) (map number these)) (Some (at - k)) None) (sym n)

  -- The unit that is held at an offset is, as a number, the unit of the text there.
  pub unit-is : (e : Encoding) (text : Text) (held : List Unit) → map number held ≡ text_units_in_encoding e text → (at to : ℕ) → to ≡ at → to < length held
      → (x : Unit) → x ≡ get_or held to x → (n : ℕ) → n ≡ number x → slice_get (text_units_in_encoding e text) at ≡ Some n
  unit-is e text held h at to t l x is n m =
      ap (λ us. slice_get us at) (sym h) ∙ slice_get-map number held at ∙ ap (λ k. option_map number (slice_get held k)) (sym t)
      ∙ ap (option_map number) (slice_get-get_or held to x l ∙ ap Some (sym is)) ∙ ap Some (sym m)

  -- A range of held units occurs again exactly where the characters of the range do.
  pub again-is : (e : Encoding) (text : Text) (held : List Unit) → UnitsOccurWhereCharactersDo e (map number held) text
      → (same : Unit → Unit → Bool) → ((a b : Unit) → same a b ≡ nat_eq (number a) (number b))
      → (d d' : Direction) → d' ≡ d → (at at' a a' b b' : ℕ) → at' ≡ at → a' ≡ a → b' ≡ b
      → IsBoundary text at → IsBoundary text a → IsBoundary text b → a ≤ b
      → (to : Option ℕ) → to ≡ past_units_if_next same held (slice_range held a' b') d' at' → unless_splitting_pair e (map number held) to ≡ past_repeated_range_if_next text a b d at
  again-is e text held again same equal d d' ed at at' a a' b b' eat ea eb f g h l to found =
      let us = map number held in
      ap (unless_splitting_pair e us)
      (found ∙ stand-as same equal held (slice_range held a' b') d' at'
      ∙ ap (λ these. past_numbers_if_next us these d' at') (sym (range-map held a' b'))
      ∙ ap (λ x. past_numbers_if_next us (slice_range us x b') d' at') ea
      ∙ ap (λ x. past_numbers_if_next us (slice_range us a x) d' at') eb
      ∙ ap (λ x. past_numbers_if_next us (slice_range us a b) x at') ed
      ∙ ap (past_numbers_if_next us (slice_range us a b) d) eat)
      ∙ again d at a b f g h l
