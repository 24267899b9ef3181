-- If each character is one code unit, each offset is a boundary, and reads move by one unit.
use Rattle.std.proofs.Common.{◌≡◌, ◌≢◌, ℕ, zero, suc, ◌+◌, ◌-◌, ◌<◌, ◌≤◌, List, [], ◌∷◌, length, get_or, take, flat_map, slice_range, Bool, nat_eq, Some, None, option_map, refl, sym, ◌∙◌, ap, ap₂}
use Rattle.std.proofs.Common.{subst, arith}
use Rattle.std.proofs.lemmas.Option.{slice_get-get_or, slice_get_past}
use Rattle.regex_meaning.specs.Text.{Text, Direction, rightwards, leftwards, width_of_single_unit_character}
use Rattle.regex_meaning.specs.CodeUnitOffsets.{HasRisingPlaceOffsets, IsBoundary, offset, units, place_at, read}
use Rattle.regex_meaning.proofs.CodeUnitOffsetsLemmas.{place_at-offset, offset-IsBoundary, width_of_single_unit_character-positive}
use Rattle.regress_input.specs.CharAndByteReadsFromOffset.{part, characters_between, past_spelled_if_next, past_numbers_if_next}
use Rattle.regress_input.proofs.BoundaryPositions.{place_of_boundary, pair, read-place}
use Rattle.regress_input.proofs.SpelledTextLemmas.{text_of, is_text, offset-spelling}
use Rattle.regress_input.proofs.TextSlices.{part-is, literal-right, literal-left, IsInjective, place_is}

abbrev single : ℕ → List ℕ
single c = c ∷ []

sized : (c : ℕ) → length (single c) ≡ width_of_single_unit_character c
sized c = refl

pub all_single : (us : List ℕ) → flat_map single us ≡ us
all_single [] = refl
all_single (u ∷ us) = ap (λ l. u ∷ l) (all_single us)

units_of : (us : List ℕ) (k : ℕ) → k ≤ length us → length (flat_map single (take k us)) ≡ k
units_of us zero l = refl
units_of [] (suc k) l = absurd (omega arith)
units_of (u ∷ us) (suc k) l = omega (arith, units_of us k (omega arith))

module _ (us : List ℕ) (unicode : Bool) (fold : ℕ → ℕ) where
  abbrev this : Text
  this = text_of width_of_single_unit_character us unicode fold

  this_is_text : HasRisingPlaceOffsets this
  this_is_text = is_text width_of_single_unit_character width_of_single_unit_character-positive us unicode fold

  -- The offset of a place is the number of the place.
  offset_of_place : (k : ℕ) → k ≤ length us → offset this k ≡ k
  offset_of_place k l = offset-spelling single width_of_single_unit_character sized 0 us k l ∙ (let e = units_of us k l in omega arith)

  pub boundary : (at : ℕ) → at ≤ length us → IsBoundary this at
  boundary at l = subst (IsBoundary this) (offset_of_place at l) (offset-IsBoundary this at this_is_text l)

  found_at : (at : ℕ) → at ≤ length us → place_at this at ≡ Some at
  found_at at l = subst (λ n. place_at this n ≡ Some at) (offset_of_place at l) (place_at-offset this at this_is_text l)

  pub inside : (at : ℕ) → IsBoundary this at → at ≤ length us
  inside at b = let p = place_of_boundary this this_is_text at b in omega (arith, p.1.within, p.1.offset_is, offset_of_place p.0 p.1.within)

  pub units-length : units this ≡ length us
  units-length = offset_of_place (length us) (omega arith)

  pub read-end : (at : ℕ) → at ≡ length us → read this rightwards at ≡ None
  read-end at e =
      read-place this rightwards at at (found_at at (omega arith))
      ∙ ap (option_map (λ c. pair c (offset this (at + 1)))) (slice_get_past us at (omega arith))

  pub read-unit : (at : ℕ) → at < length us → read this rightwards at ≡ Some (pair (get_or us at 0) (at + 1))
  read-unit at l =
      read-place this rightwards at at (found_at at (omega arith))
      ∙ ap (option_map (λ c. pair c (offset this (at + 1)))) (slice_get-get_or us at 0 l)
      ∙ ap (λ n. Some (pair (get_or us at 0) n)) (offset_of_place (at + 1) (omega arith))

  -- An offset before the end of the text has a unit.
  pub within : (at : ℕ) → at < units this → at < length us
  within at l = omega (arith, l, units-length)

  -- Before the end, a read to the right yields the unit there and leads to the next offset.
  pub reads-on : (at to : ℕ) → at < units this → to ≡ at + 1 → read this rightwards at ≡ Some (pair (get_or us at 0) to)
  reads-on at to l e = read-unit at (within at l) ∙ ap (λ n. Some (pair (get_or us at 0) n)) (sym e)

  pub read-start : (at : ℕ) → at ≡ 0 → read this leftwards at ≡ None
  read-start at e = ap (read this leftwards) e ∙ read-place this leftwards 0 0 (found_at 0 (omega arith))

  pub read-unit-left : (at : ℕ) → at ≤ length us → at ≢ 0 → read this leftwards at ≡ Some (pair (get_or us (at - 1) 0) (at - 1))
  read-unit-left zero l n = absurd (n refl)
  read-unit-left (suc j) l n =
      let i : j ≡ suc j - 1 = omega arith in
      read-place this leftwards (suc j) (suc j) (found_at (suc j) l)
      ∙ ap (option_map (λ c. pair c (offset this (suc j - 1)))) (slice_get-get_or us j 0 (omega arith) ∙ ap (λ k. Some (get_or us k 0)) i)
      ∙ ap (λ n. Some (pair (get_or us (suc j - 1) 0) n)) (offset_of_place (suc j - 1) (omega arith))

  pub reads-back : (at to : ℕ) → IsBoundary this at → 0 < at → to ≡ at - 1 → read this leftwards at ≡ Some (pair (get_or us (at - 1) 0) to)
  reads-back at to b l e = read-unit-left at (inside at b) (λ z. absurd (omega (arith, l, z))) ∙ ap (λ n. Some (pair (get_or us (at - 1) 0) n)) (sym e)

  between_is : (a b : ℕ) → IsBoundary this a → IsBoundary this b → characters_between this a b ≡ slice_range us a b
  between_is a b f g = ap₂ (slice_range us) (place_is this a a (found_at a (inside a f))) (place_is this b b (found_at b (inside b g)))

  pub part-one : (a b : ℕ) → IsBoundary this a → IsBoundary this b → a ≤ b → text_of width_of_single_unit_character (slice_range us a b) unicode fold ≡ part this a b
  part-one a b f g l =
      ap (λ cs. text_of width_of_single_unit_character cs unicode fold) (sym (between_is a b f g))
      ∙ part-is single width_of_single_unit_character sized us us unicode fold (all_single us) width_of_single_unit_character-positive a b f g l

  injective : IsInjective single width_of_single_unit_character sized us us unicode fold (all_single us) width_of_single_unit_character-positive
  injective p q i j e = sym (all_single (slice_range us p q)) ∙ e ∙ all_single (slice_range us i j)

  pub literal-one : (d : Direction) (at a b : ℕ) → IsBoundary this at → IsBoundary this a → IsBoundary this b → a ≤ b
      → past_numbers_if_next us (slice_range us a b) d at ≡ past_spelled_if_next this nat_eq (characters_between this a b) d at
  literal-one rightwards at a b at_b f g l =
      literal-right single width_of_single_unit_character sized us us unicode fold (all_single us) width_of_single_unit_character-positive injective at a b at_b f g l
      (λ to h. boundary to (omega (arith, h.to_is, h.fits)))
  literal-one leftwards at a b at_b f g l =
      literal-left single width_of_single_unit_character sized us us unicode fold (all_single us) width_of_single_unit_character-positive injective at a b at_b f g l
      (λ to h. boundary to (omega (arith, h.to_is, h.fits, inside at at_b)))
