-- An offset from which a search may start is a boundary of the text or past its end.
use Rattle.std.proofs.Common.{◌≡◌, ℕ, ◌<◌, ◌⊎◌, inl, inr, ◌≤◌, List, length, nat_le, Bool, true, false, IsUtf8, IsCharBoundary, IsTrue, sym, ◌∙◌, ap, subst, arith}
use Rattle.std.proofs.lemmas.Bool.Decides.{leb_tells}
use Rattle.regex_meaning.specs.Text.{Text, utf8_text, ascii_text, utf16_text, ucs2_text, fold_ascii, fold_code_point, width_of_single_unit_character, is_unit_boundary}
use Rattle.regex_meaning.specs.CodeUnitOffsets.{IsBoundary, units, IsBoundaryOrPastEnd}
use Rattle.regex_meaning.specs.CodeUnits.{AreU16Units}
use Rattle.regex_meaning.proofs.UnitBoundaryLemmas.{unit_boundary-place_at, units-utf16}
use Rattle.regex_meaning.proofs.CodeUnitLengthLemmas.{utf8_text-units, ascii_text-units, ucs2_text-units}
use Rattle.regress_input.proofs.OneUnitCharacters.{boundary}
use Rattle.regress_input.proofs.SpelledTextLemmas.{text_of}
use Rattle.regress_input.proofs.Utf8Slices.{boundary_of_char}

module _ (text : Text) (bytes : List ℕ) (unicode : Bool) (same : text ≡ utf8_text bytes unicode) (is_utf8 : IsUtf8 bytes) where
  pub utf8_units : units text ≡ length bytes
  utf8_units = ap units same ∙ utf8_text-units bytes unicode is_utf8

  pub utf8_start : (start : ℕ) → IsCharBoundary bytes start ⊎ (length bytes < start) → IsBoundaryOrPastEnd text start
  utf8_start start (inl b) = inl (subst (λ t. IsBoundary t start) (sym same) (boundary_of_char bytes unicode ∣ is_utf8 ∣₁ start b))
  utf8_start start (inr l) = inr (omega (arith, l, utf8_units))

-- A start is a boundary or past the end if each start within the text is a boundary.
within-or-past : (text : Text) (size start : ℕ) → units text ≡ size → (start ≤ size → IsBoundary text start) → IsBoundaryOrPastEnd text start
within-or-past text size start same inside = by (leb_tells start size)
  where
    by : ((nat_le start size ≡ true) × (start ≤ size)) ⊎ ((nat_le start size ≡ false) × (size < start)) → IsBoundaryOrPastEnd text start
    by (inl (e, l)) = inl (inside l)
    by (inr (e, l)) = inr (omega (arith, l, same))

-- In a text of one unit per character each start is a boundary or past the end.
one-start : (text : Text) (us : List ℕ) (unicode : Bool) (fold : ℕ → ℕ) → text ≡ text_of width_of_single_unit_character us unicode fold → units text ≡ length us → (start : ℕ) → IsBoundaryOrPastEnd text start
one-start text us unicode fold same size start =
    within-or-past text (length us) start size (λ l. subst (λ t. IsBoundary t start) (sym same) (boundary us unicode fold start l))

module _ (text : Text) (bytes : List ℕ) (unicode : Bool) (same : text ≡ ascii_text bytes unicode) where
  pub ascii_units : units text ≡ length bytes
  ascii_units = ap units same ∙ ascii_text-units bytes unicode

  pub ascii_start : (start : ℕ) → IsBoundaryOrPastEnd text start
  ascii_start = one-start text bytes unicode (fold_ascii unicode) same ascii_units

module _ (text : Text) (us : List ℕ) (unicode : Bool) (same : text ≡ ucs2_text us unicode) where
  pub ucs2_units : units text ≡ length us
  ucs2_units = ap units same ∙ ucs2_text-units us unicode

  pub ucs2_start : (start : ℕ) → IsBoundaryOrPastEnd text start
  ucs2_start = one-start text us unicode (fold_code_point unicode) same ucs2_units

module _ (text : Text) (us : List ℕ) (unicode : Bool) (same : text ≡ utf16_text us unicode) (small : AreU16Units us) where
  pub utf16_units : units text ≡ length us
  utf16_units = ap units same ∙ units-utf16 us unicode small

  pub utf16_start : (start : ℕ) → IsTrue (is_unit_boundary us start) ⊎ (length us < start) → IsBoundaryOrPastEnd text start
  utf16_start start (inl b) = inl (subst (λ t. IsBoundary t start) (sym same) (sym (unit_boundary-place_at us unicode start) ∙ b))
  utf16_start start (inr l) = inr (omega (arith, l, utf16_units))
