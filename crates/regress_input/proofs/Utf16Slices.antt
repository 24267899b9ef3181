-- A range between boundaries of a UTF-16 text is the text of its code units.
use Rattle.std.proofs.Common.{◌≡◌, ℕ, ◌-◌, ◌≤◌, List, drop, slice_range, Bool, true, cond, nat_eq, Option, Some, None, sym, ◌∙◌, ap}
use Rattle.regex_meaning.specs.Text.{Text, Direction, rightwards, leftwards, utf16_width, utf16_characters, utf16_text, is_unit_boundary, fold_code_point}
use Rattle.regex_meaning.specs.CodeUnitOffsets.{IsBoundary}
use Rattle.regex_meaning.specs.CodeUnits.{AreU16Units}
use Rattle.regress_input.specs.CharAndByteReadsFromOffset.{part, characters_between, past_spelled_if_next, past_numbers_if_next}
use Rattle.regress_input.specs.Utf16CharactersAtOffsets.{if_utf16_boundary}
use Rattle.regress_input.proofs.SpelledTextLemmas.{text_of}
use Rattle.regress_input.proofs.TextSlices.{range-units, part-is, found-right, found-left, IsInjective, past_bytes-right, right-past_bytes, past_bytes-left, left-past_bytes, chosen}
use Rattle.regress_input.proofs.Utf16Reads.{spell, sized, spelled, Decoded, decoded, decoded-take, decoded-drop, decode, unit_boundary, boundary_of_units}
use Rattle.regex_meaning.proofs.CodeUnitOffsetsLemmas.{utf16_width-positive}

-- If a value passes the test of the boundary, it is unchanged and is a boundary.
kept : (us : List ℕ) (o : Option ℕ) (to : ℕ) → if_utf16_boundary us o ≡ Some to → (o ≡ Some to) × (is_unit_boundary us to ≡ true)
kept us None to e = absurd (cc)
kept us (Some x) to e = let made = chosen (is_unit_boundary us x) x to e in (ap Some (sym made.1), ap (is_unit_boundary us) made.1 ∙ made.0)

keeps : (us : List ℕ) (o : Option ℕ) (to : ℕ) → o ≡ Some to → is_unit_boundary us to ≡ true → if_utf16_boundary us o ≡ Some to
keeps us o to e b = ap (if_utf16_boundary us) e ∙ ap (λ (t : Bool). cond t (Some to) None) b

module _ (us : List ℕ) (small : AreU16Units us) (unicode : Bool) where
  abbrev cs : List ℕ
  cs = utf16_characters us

  abbrev text : Text
  text = utf16_text us unicode

  range_decoded : (p q : ℕ) → Decoded (slice_range cs p q)
  range_decoded p q = decoded-take (drop p cs) (q - p) (decoded-drop cs p (decoded us small))

  injective : IsInjective spell utf16_width sized cs us unicode (fold_code_point unicode) (spelled us small) utf16_width-positive
  injective p q i j e =
      sym (decode (slice_range cs p q) (range_decoded p q)) ∙ ap utf16_characters e ∙ decode (slice_range cs i j) (range_decoded i j)

  -- A range of units between boundaries is the text of that range.
  pub part-utf16 : (a b : ℕ) → IsBoundary text a → IsBoundary text b → a ≤ b → utf16_text (slice_range us a b) unicode ≡ part text a b
  part-utf16 a b f g l =
      let units = range-units spell utf16_width sized cs us unicode (fold_code_point unicode) (spelled us small) utf16_width-positive a b f g l in
      let characters : utf16_characters (slice_range us a b) ≡ characters_between text a b = ap utf16_characters units ∙ decode (characters_between text a b) (range_decoded _ _) in
      ap (λ (cs : List ℕ). text_of utf16_width cs unicode (fold_code_point unicode)) characters
      ∙ part-is spell utf16_width sized cs us unicode (fold_code_point unicode) (spelled us small) utf16_width-positive a b f g l

  -- The units of a range stand from one boundary to another exactly where its characters do.
  pub literal : (d : Direction) (at a b : ℕ) → IsBoundary text at → IsBoundary text a → IsBoundary text b → a ≤ b
      → if_utf16_boundary us (past_numbers_if_next us (slice_range us a b) d at) ≡ past_spelled_if_next text nat_eq (characters_between text a b) d at
  literal rightwards at a b at_b f g l =
      let found = past_numbers_if_next us (slice_range us a b) rightwards at in
      found-right spell utf16_width sized cs us unicode (fold_code_point unicode) (spelled us small) utf16_width-positive injective at a b at_b f g l (if_utf16_boundary us found)
      (λ to e. let h = kept us found to e in (past_bytes-right us (slice_range us a b) at to h.0, boundary_of_units us small unicode to h.1))
      (λ to h b'. keeps us found to (right-past_bytes us (slice_range us a b) at to h) (unit_boundary us small unicode to b'))
  literal leftwards at a b at_b f g l =
      let found = past_numbers_if_next us (slice_range us a b) leftwards at in
      found-left spell utf16_width sized cs us unicode (fold_code_point unicode) (spelled us small) utf16_width-positive injective at a b at_b f g l (if_utf16_boundary us found)
      (λ to e. let h = kept us found to e in (past_bytes-left us (slice_range us a b) at to h.0, boundary_of_units us small unicode to h.1))
      (λ to h b'. keeps us found to (left-past_bytes us (slice_range us a b) at to h) (unit_boundary us small unicode to b'))
