-- The characters of a group do not occur again at a boundary where another code unit stands first.
use Rattle.std.proofs.Common.{◌≡◌, ℕ, suc, ◌+◌, ◌-◌, ◌<◌, Bool, true, false, ◌&&◌, ◌||◌, ◌∷◌, length, Option, Some, None, refl, ap, sym, ◌∙◌, arith, slice_get}
use Rattle.std.specs.Prelude.{option_and_then, slice_range, if◌then◌else◌, nat_le, nat_eq, not, ◌==◌}
use Rattle.std.proofs.lemmas.Bool.{eq-eqb, ne_eqb}
use lib.Pointwise.{pointwise}
use Rattle.regex_meaning.specs.Tree.{exact}
use Rattle.regex_meaning.specs.Outcomes.{is_same}
use Rattle.regex_meaning.specs.Text.{Text, rightwards, characters_ahead, moved}
use Rattle.regex_meaning.specs.CodeUnitOffsets.{IsBoundary, offset}
use Rattle.regex_meaning.specs.CodeUnits.{Encoding, code_units_of_character, text_units_in_encoding}
use Rattle.regex_meaning.proofs.CodeUnitOffsetsLemmas.{IsBoundary-place, place-less}
use Rattle.regress_input.specs.CharAndByteReadsFromOffset.{place, past_spelled_if_next}
use Rattle.regress_input.proofs.ListRangeLemmas.{slice-first}
use Rattle.regress_machine.specs.FirstSetTables.{HasUnitsForTables}
use Rattle.regress_machine.proofs.FirstUnitsOfCharacters.{unit-there}
use Rattle.regress_search.proofs.NextCharByUnit.{placed}
use Rattle.regress_backtrack.specs.OffsetPastBackreference.{offset_past_repeated_capture}

-- A test of two code units that finds them unequal tells that they differ.
pub other-units : (u v : ℕ) → not (nat_eq u v) ≡ true → (u ≡ v → ⊥)
other-units u v other same = let never : false ≡ true = sym (ap not (eq-eqb u v same)) ∙ other in cc

never : {X : Type 0} (b : Bool) (x : X) → None ≡ (if b && false then Some x else None)
never true x = refl
never false x = refl

module _ (e : Encoding) (text : Text) (has : HasUnitsForTables e text) where
  -- The character at a boundary begins with the code unit there.
  begun : (at unit : ℕ) → IsBoundary text at → slice_get (text_units_in_encoding e text) at ≡ Some unit
      → (c : ℕ) × (slice_get text.characters (place text at) ≡ Some c) × (slice_get (code_units_of_character e c) 0 ≡ Some unit)
  begun at unit on there = by (slice_get text.characters (place text at)) refl
    where
      first : Option ℕ → Option ℕ
      first = option_and_then (λ c. slice_get (code_units_of_character e c) 0)

      is_first : slice_get (text_units_in_encoding e text) at ≡ first (slice_get text.characters (place text at))
      is_first = unit-there e text has.is_text has.spelled at (place text at) (placed text at on)

      by : (o : Option ℕ) → slice_get text.characters (place text at) ≡ o
          → (c : ℕ) × (slice_get text.characters (place text at) ≡ Some c) × (slice_get (code_units_of_character e c) 0 ≡ Some unit)
      by None is = let none : None ≡ Some unit = sym (ap first is) ∙ sym is_first ∙ there in cc
      by (Some c) is = (c, is, sym (ap first is) ∙ sym is_first ∙ there)

  -- Places are ordered as their boundaries are.
  places-less : (from to : ℕ) → IsBoundary text from → IsBoundary text to → from < to → place text from < place text to
  places-less from to on_from on_to less =
      let p = IsBoundary-place text from has.is_text on_from in
      let q = IsBoundary-place text to has.is_text on_to in
      let l = place-less text p.0 q.0 has.is_text p.3 q.3 (omega (arith, less, p.2, q.2)) in
      let at_p : Some (place text from) ≡ Some p.0 = sym (placed text from on_from) ∙ p.1 in
      let at_q : Some (place text to) ≡ Some q.0 = sym (placed text to on_to) ∙ q.1 in
      let same_p : place text from ≡ p.0 = cc in
      let same_q : place text to ≡ q.0 = cc in
      omega (arith, l, same_p, same_q)

  pub begin-otherwise : (from to at u v : ℕ) → IsBoundary text from → IsBoundary text to → IsBoundary text at → from < to
      → slice_get (text_units_in_encoding e text) from ≡ Some u → slice_get (text_units_in_encoding e text) at ≡ Some v → (u ≡ v → ⊥)
      → None ≡ offset_past_repeated_capture text exact (from, to) rightwards at
  begin-otherwise from to at u v on_from on_to on_at less here there other =
      let c = begun from u on_from here in
      let d = begun at v on_at there in
      let p = place text from in
      let k = place text at in
      let m = place text to - p - 1 in
      let n = length (slice_range text.characters (suc p) (suc p + m)) in
      let long = places-less from to on_from on_to less in
      let end : place text to ≡ p + suc m = omega (arith, long) in
      let differs : c.0 ≡ d.0 → ⊥ = λ same. other (let both : Some u ≡ Some v = sym c.2 ∙ ap (λ c. slice_get (code_units_of_character e c) 0) same ∙ d.2 in cc) in
      never (nat_le (suc n) (characters_ahead text rightwards k)) (offset text (moved text rightwards (suc n) k))
      ∙ sym (ap (λ b. if nat_le (suc n) (characters_ahead text rightwards k)
      && (b && pointwise (is_same text exact) (slice_range text.characters (suc p) (suc p + m)) (slice_range text.characters (suc k) (suc k + n)))
      then Some (offset text (moved text rightwards (suc n) k)) else None) (ne_eqb c.0 d.0 differs))
      ∙ sym (ap (λ ds. if nat_le (suc n) (characters_ahead text rightwards k) && pointwise (is_same text exact) (c.0 ∷ slice_range text.characters (suc p) (suc p + m)) ds
      then Some (offset text (moved text rightwards (suc n) k)) else None) (slice-first text.characters k n d.0 d.1))
      ∙ sym (ap (λ cs. past_spelled_if_next text (is_same text exact) cs rightwards at) (ap (slice_range text.characters p) end ∙ slice-first text.characters p m c.0 c.1))
