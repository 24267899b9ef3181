-- The code units that a match reads before the goal of a leap have keys that the leap passes.
use Rattle.std.proofs.Common.{◌≡◌, ◌<◌, ◌≤◌, ℕ, zero, suc, ◌+◌, ◌-◌, List, [], ◌∷◌, ◌++◌, Some, Bool, true, ap, ◌∙◌, sym, subst, arith, slice_get, length, drop, get_or, inl, inr}
use Rattle.std.specs.Prelude.{flat_map, option_map, nat_eq, encode_utf8_all}
use Rattle.std.specs.List.{list_all, starts_with, prefix_len}
use Rattle.std.proofs.lemmas.Bool.{eqb-true, cases_lt}
use Rattle.std.proofs.lemmas.Option.{slice_get-get_or}
use Rattle.regex_meaning.specs.Text.{Text, rightwards, offsets_from}
use Rattle.regex_meaning.specs.CodeUnitOffsets.{offset}
use Rattle.regex_meaning.specs.OutcomesWithStepTicks.{nearest_first}
use Rattle.regex_meaning.specs.Outcomes.{is_some_and}
use Rattle.regex_meaning.specs.CodeUnits.{Encoding, utf8, code_units_of_character, text_units_in_encoding}
use Rattle.regex_meaning.proofs.BoolLemmas.{and-left, and-right}
use Rattle.regex_meaning.proofs.ListLemmas.{get-behind, get-front}
use Rattle.regex_meaning.proofs.CodeUnitLengthLemmas.{has-unit}
use Rattle.regress_machine.specs.FirstSetTables.{is_character_in_encoding, HasUnitsForTables, unit_key_at}
use Rattle.regress_machine.proofs.ExcludedCharLoopExits.{one-of-run, slice_get-behind, inside-of}
use Rattle.regress_machine.proofs.FirstUnitsOfCharacters.{passes-one, widths, offsets-from, offset-behind, units-bytes}

-- ---- Lists

-- ---- Characters and their units

module _ (units : ℕ → List ℕ) (some : (c : ℕ) → 0 < length (units c)) where
  -- From the offset of a character on stand its units.
  units-of : (cs : List ℕ) (at n p c i : ℕ) → slice_get cs p ≡ Some c → get_or (offsets_from at (widths units some cs)) p 0 ≡ at + n → i < length (units c)
      → slice_get (flat_map units cs) (n + i) ≡ slice_get (units c) i
  units-of [] at n p c i there e less = cc
  units-of (d ∷ cs) at n zero c i there e less =
      let same : d ≡ c = cc in
      let none : n + i ≡ i = omega (arith, e) in
      let fewer : i < length (units d) = subst (λ x. i < length (units x)) (sym same) less in
      ap (slice_get (units d ++ flat_map units cs)) none ∙ get-front (units d) (flat_map units cs) i fewer ∙ ap (λ x. slice_get (units x) i) same
  units-of (d ∷ cs) at n (suc p) c i there e less =
      let inside = inside-of cs p c there in
      let least = offsets-from units some cs (at + length (units d)) p (omega (arith, inside)) in
      let rest = n - length (units d) in
      let whole : n + i ≡ length (units d) + (n - length (units d) + i) = omega (arith, least, e) in
      ap (slice_get (units d ++ flat_map units cs)) whole
      ∙ get-behind (units d) (flat_map units cs) (n - length (units d) + i)
      ∙ units-of cs (at + length (units d)) (n - length (units d)) p c i there (e ∙ (let f : at + n ≡ at + length (units d) + (n - length (units d)) = omega (arith, least, e) in f)) less

module _ (e : Encoding) (key : ℕ → ℕ) (text : Text) (has : HasUnitsForTables e text) (over : ℕ → Bool) where
  -- This says whether the unit at an offset has a key of the set.
  abbrev pub over_at : ℕ → Bool
  over_at at = is_some_and (unit_key_at e key text at) over

  -- The place behind a character is as many units on as the character has.
  pub place-behind : (p c : ℕ) → slice_get text.characters p ≡ Some c → offset text (p + 1) ≡ offset text p + length (code_units_of_character e c)
  place-behind p c there =
      ap (offset text) (let n : p + 1 ≡ suc p = omega arith in n)
      ∙ ap (λ (os : List ℕ). get_or os (suc p) 0) has.spelled.offsets
      ∙ offset-behind (code_units_of_character e) (has-unit e) text.characters 0 p c there
      ∙ ap (λ (os : List ℕ). get_or os p 0 + length (code_units_of_character e c)) (sym has.spelled.offsets)

  unit-there : (p c i : ℕ) → slice_get text.characters p ≡ Some c → i < length (code_units_of_character e c)
      → slice_get (text_units_in_encoding e text) (offset text p + i) ≡ slice_get (code_units_of_character e c) i
  unit-there p c i there less =
      units-of (code_units_of_character e) (has-unit e) text.characters 0 (offset text p) p c i there
      (ap (λ (os : List ℕ). get_or os p 0) (sym has.spelled.offsets) ∙ (let z : offset text p ≡ 0 + offset text p = omega arith in z)) less

  -- If all units of a character are in the set, each unit at its offsets is.
  pub char-over : (p c : ℕ) → slice_get text.characters p ≡ Some c → list_all (λ unit. over (key unit)) (code_units_of_character e c) ≡ true
      → (at : ℕ) → offset text p ≤ at → at < offset text (p + 1) → over_at at ≡ true
  char-over p c there all at le less =
      let i = at - offset text p in
      let end = place-behind p c there in
      let inside : at - offset text p < length (code_units_of_character e c) = omega (arith, le, less, end) in
      let one = slice_get-get_or (code_units_of_character e c) (at - offset text p) 0 inside in
      ap (λ o. is_some_and (option_map key o) over)
      (ap (slice_get (text_units_in_encoding e text)) (let z : at ≡ offset text p + (at - offset text p) = omega (arith, le) in z)
      ∙ unit-there p c (at - offset text p) there inside ∙ one)
      ∙ passes-one (λ unit. over (key unit)) (code_units_of_character e c) (at - offset text p) (get_or (code_units_of_character e c) (at - offset text p) 0) all one

  -- ---- Successive characters

  module _ (test : ℕ → Bool) (accepts : (c : ℕ) → is_character_in_encoding e c ≡ true → test c ≡ true → list_all (λ unit. over (key unit)) (code_units_of_character e c) ≡ true)
      (p : ℕ) where
    -- All units from a place to the place `n` characters on are in the set.
    pub record IsRunTo (n : ℕ) : Type 0 where
      pub after : offset text p ≤ offset text (p + n)
      pub each_over : (at : ℕ) → offset text p ≤ at → at < offset text (p + n) → over_at at ≡ true

    pub run-to : (n : ℕ) → n ≤ prefix_len test (nearest_first text rightwards p) → IsRunTo n
    run-to zero le =
        let same : offset text (p + 0) ≡ offset text p = ap (offset text) (let z : p + 0 ≡ p = omega arith in z) in
        record { after = omega (arith, same); each_over = λ at from less. absurd (omega (arith, same, from, less)) }
    run-to (suc n) le =
        let so_far = run-to n (omega (arith, le)) in
        let one = one-of-run test (drop p text.characters) n (omega (arith, le)) in
        let there : slice_get text.characters (p + n) ≡ Some one.0 = sym (slice_get-behind p n text.characters) ∙ one.1 in
        let character = passes-one (is_character_in_encoding e) text.characters (p + n) one.0 has.characters there in
        let behind = place-behind (p + n) one.0 there in
        let same : offset text (p + suc n) ≡ offset text (p + n + 1) = ap (offset text) (let z : p + suc n ≡ p + n + 1 = omega arith in z) in
        let after = so_far.after in
        record {
          after = omega (arith, after, behind, same);
          each_over = λ at from less. elim (cases_lt at (offset text (p + n))) [
            | inl before ↦ so_far.each_over at from before
            | inr last ↦ char-over (p + n) one.0 there (accepts one.0 character one.2) at last (omega (arith, less, same))
          ];
        }

-- ---- Bytes

started : (bytes ds : List ℕ) (i : ℕ) → starts_with nat_eq ds bytes ≡ true → i < length bytes → slice_get ds i ≡ slice_get bytes i
started [] ds i h less = absurd (omega (arith, less))
started (b ∷ bytes) [] i h less = cc
started (b ∷ bytes) (d ∷ ds) zero h less = let same : b ≡ d = eqb-true b d (and-left (nat_eq b d) (starts_with nat_eq ds bytes) h) in ap Some (sym same)
started (b ∷ bytes) (d ∷ ds) (suc i) h less = started bytes ds i (and-right (nat_eq b d) (starts_with nat_eq ds bytes) h) (omega (arith, less))

-- If all bytes are in the set, each byte at their offsets is.
pub bytes-over : (key : ℕ → ℕ) (text : Text) (over : ℕ → Bool) (from : ℕ) (bytes : List ℕ) → starts_with nat_eq (drop from (encode_utf8_all text.characters)) bytes ≡ true
    → list_all (λ unit. over (key unit)) bytes ≡ true → (at : ℕ) → from ≤ at → at < from + length bytes → is_some_and (unit_key_at utf8 key text at) over ≡ true
bytes-over key text over from bytes here all at le less =
    let i = at - from in
    let inside : at - from < length bytes = omega (arith, le, less) in
    let one = slice_get-get_or bytes (at - from) 0 inside in
    ap (λ o. is_some_and (option_map key o) over)
    (ap (λ (l : List ℕ). slice_get l at) (units-bytes text.characters)
    ∙ ap (slice_get (encode_utf8_all text.characters)) (let z : at ≡ from + (at - from) = omega (arith, le) in z)
    ∙ sym (slice_get-behind from (at - from) (encode_utf8_all text.characters))
    ∙ started bytes (drop from (encode_utf8_all text.characters)) (at - from) here inside ∙ one)
    ∙ passes-one (λ unit. over (key unit)) bytes (at - from) (get_or bytes (at - from) 0) all one
