-- The boundaries of a UTF-8 text are those of its bytes, and a range between two is the text of its bytes.
use Rattle.std.proofs.Common.{◌≡◌, ℕ, zero, suc, ◌≤◌, List, [], ◌∷◌, ◌++◌, ◌&&◌, length, take, drop, flat_map, slice_range, Bool, true, chars, IsUtf8, IsCharBoundary, nat_eq, refl, sym, ◌∙◌, ap}
use Rattle.std.proofs.Common.{subst, arith, length-take, take-append-drop}
use Rattle.std.specs.Char.{len_utf8}
use Rattle.std.proofs.lemmas.Str.{encodes-chars, chars-encodes, scalars-chars, encodes-append, encodes_same, IsUtf8-append, IsUtf8-drop, IsUtf8-take, IsUtf8-had, IsCharBoundary-from_take}
use Rattle.std.proofs.lemmas.Str.{IsCharBoundary-from_drop, length-encode}
use Rattle.std.proofs.lemmas.List.Folds.{drop_split}
use lib.Utf8.{scalars, encode, encodes}
use Rattle.regex_meaning.specs.Text.{Text, Direction, rightwards, leftwards, utf8_text, fold_char}
use Rattle.regex_meaning.specs.CodeUnitOffsets.{IsBoundary, offset}
use Rattle.regex_meaning.proofs.CodeUnitOffsetsLemmas.{utf8_text-IsText, offset-IsBoundary, len_utf8-positive}
use Rattle.regress_input.specs.CharAndByteReadsFromOffset.{part, characters_between, past_spelled_if_next, past_numbers_if_next}
use Rattle.regress_input.proofs.BoundaryPositions.{HasPlace}
use Rattle.regress_input.proofs.SpelledTextLemmas.{text_of, cut_at, offset-spelling, Cut}
use Rattle.regress_input.proofs.TextSlices.{StandBehind, StandBefore, range-units, part-is, literal-right, literal-left, IsInjective, take-slice}
use Rattle.regress_input.proofs.Utf8Reads.{encodes-flat_map, spelled_by, scalar_first, boundary_inside}

scalars-take : (cs : List ℕ) (n : ℕ) → scalars cs ≡ true → scalars (take n cs) ≡ true
scalars-take [] zero s = refl
scalars-take [] (suc n) s = refl
scalars-take (c ∷ cs) zero s = refl
scalars-take (c ∷ cs) (suc n) s =
    let both = scalar_first c (scalars cs) s in ap (λ (b : Bool). b && scalars (take n cs)) both.0 ∙ scalars-take cs n both.1

scalars-drop : (cs : List ℕ) (n : ℕ) → scalars cs ≡ true → scalars (drop n cs) ≡ true
scalars-drop [] zero s = s
scalars-drop [] (suc n) s = s
scalars-drop (c ∷ cs) zero s = s
scalars-drop (c ∷ cs) (suc n) s = scalars-drop cs n (scalar_first c (scalars cs) s).1

utf8_of : (cs : List ℕ) → scalars cs ≡ true → (bs : List ℕ) → bs ≡ flat_map encode cs → IsUtf8 bs
utf8_of cs s bs e = (cs, (s, encodes-flat_map cs ∙ sym e))

module _ (bytes : List ℕ) (unicode : Bool) (is_utf8 : ∥ IsUtf8 bytes ∥₁) where
  u : IsUtf8 bytes
  u = IsUtf8-had bytes is_utf8

  abbrev text : Text
  text = utf8_text bytes unicode

  abbrev here : (at : ℕ) → IsBoundary text at → (k : ℕ) × HasPlace text at k × Cut encode len_utf8 length-encode (chars bytes) bytes at k
  here = cut_at encode len_utf8 length-encode (chars bytes) bytes unicode (fold_char unicode) (spelled_by bytes u) len_utf8-positive

  -- The bytes on either side of a boundary are UTF-8.
  pub utf8_behind : (at : ℕ) → IsBoundary text at → IsUtf8 (drop at bytes)
  utf8_behind at b =
      let (k, p, c) = here at b in
      utf8_of (drop k (chars bytes)) (scalars-drop (chars bytes) k (scalars-chars bytes u)) (drop at bytes) c.behind

  pub utf8_before : (at : ℕ) → IsBoundary text at → IsUtf8 (take at bytes)
  utf8_before at b =
      let (k, p, c) = here at b in
      utf8_of (take k (chars bytes)) (scalars-take (chars bytes) k (scalars-chars bytes u)) (take at bytes) c.before

  -- A boundary of the text is a boundary between characters of the bytes.
  pub char_boundary : (at : ℕ) → IsBoundary text at → IsCharBoundary bytes at
  char_boundary at b = IsCharBoundary-from_drop bytes at (boundary_inside bytes unicode is_utf8 at b) (utf8_behind at b)

  -- An offset at which the bytes can be cut into two UTF-8 parts is a boundary.
  boundary_of_parts : (at : ℕ) → at ≤ length bytes → IsUtf8 (take at bytes) → IsUtf8 (drop at bytes) → IsBoundary text at
  boundary_of_parts at l (cs, (s, e)) (ds, (t, f)) =
      let whole : encodes (cs ++ ds) ≡ bytes = encodes-append cs ds ∙ ap (λ x. x ++ encodes ds) e ∙ ap (λ x. take at bytes ++ x) f ∙ take-append-drop at bytes in
      let all : chars bytes ≡ cs ++ ds = encodes_same (chars bytes) (cs ++ ds) (encodes-chars bytes u ∙ sym whole) in
      let k : ℕ = length cs in
      let front : take k (chars bytes) ≡ cs = ap (take k) all ∙ take_front cs ds in
      let within : k ≤ length (chars bytes) = omega (arith, ap length front, length-take k (chars bytes)) in
      let at_is : offset text k ≡ at = offset-spelling encode len_utf8 length-encode 0 (chars bytes) k within ∙ (let n : length (flat_map encode (take k (chars bytes))) ≡ at = ap (λ x. length (flat_map encode x)) front ∙ ap length (sym (encodes-flat_map cs) ∙ e) ∙ (omega (arith, length-take at bytes)) in omega arith) in
      subst (IsBoundary text) at_is (offset-IsBoundary text k (utf8_text-IsText bytes unicode) within)
    where
      take_front : (cs ds : List ℕ) → take (length cs) (cs ++ ds) ≡ cs
      take_front [] ds = refl
      take_front (c ∷ cs) ds = ap (λ x. c ∷ x) (take_front cs ds)

  pub boundary_of_char : (at : ℕ) → IsCharBoundary bytes at → IsBoundary text at
  boundary_of_char at b = boundary_of_parts at b.0 (IsUtf8-take bytes at u b) (IsUtf8-drop bytes at u b)

  slice_is_utf8 : (a b : ℕ) → IsBoundary text a → IsBoundary text b → a ≤ b → IsUtf8 (slice_range bytes a b)
  slice_is_utf8 a b f g l =
      let cs = chars bytes in
      let (p, at_p, cut_p) = here a f in
      let (q, at_q, cut_q) = here b g in
      utf8_of (characters_between text a b)
      (scalars-take (drop _ cs) _ (scalars-drop cs _ (scalars-chars bytes u))) (slice_range bytes a b)
      (range-units encode len_utf8 length-encode cs bytes unicode (fold_char unicode) (spelled_by bytes u) len_utf8-positive a b f g l)

  -- A range of bytes between boundaries is the text of that range.
  pub part-utf8 : (a b : ℕ) → IsBoundary text a → IsBoundary text b → a ≤ b → utf8_text (slice_range bytes a b) unicode ≡ part text a b
  part-utf8 a b f g l =
      let units = range-units encode len_utf8 length-encode (chars bytes) bytes unicode (fold_char unicode) (spelled_by bytes u) len_utf8-positive a b f g l in
      let s : scalars (characters_between text a b) ≡ true = scalars-take (drop _ (chars bytes)) _ (scalars-drop (chars bytes) _ (scalars-chars bytes u)) in
      let decoded : chars (slice_range bytes a b) ≡ characters_between text a b = ap chars (units ∙ sym (encodes-flat_map (characters_between text a b))) ∙ chars-encodes (characters_between text a b) s in
      ap (λ (cs : List ℕ). text_of len_utf8 cs unicode (fold_char unicode)) decoded
      ∙ part-is encode len_utf8 length-encode (chars bytes) bytes unicode (fold_char unicode) (spelled_by bytes u) len_utf8-positive a b f g l

  injective : IsInjective encode len_utf8 length-encode (chars bytes) bytes unicode (fold_char unicode) (spelled_by bytes u) len_utf8-positive
  injective p q i j e =
      encodes_same (slice_range (chars bytes) p q) (slice_range (chars bytes) i j) (encodes-flat_map (slice_range (chars bytes) p q) ∙ e ∙ sym (encodes-flat_map (slice_range (chars bytes) i j)))

  -- UTF-8 bytes that stand beside a boundary end at a boundary.
  ends_behind : (at to : ℕ) (ys : List ℕ) → IsBoundary text at → IsUtf8 ys → StandBehind bytes ys at to → IsBoundary text to
  ends_behind at to ys b w h =
      let le : at ≤ to = omega (arith, h.to_is) in
      let front : take to bytes ≡ take at bytes ++ ys = take-slice bytes at to le ∙ ap (λ x. take at bytes ++ x) (ap (slice_range bytes at) h.to_is ∙ h.are) in
      boundary_of_char to (IsCharBoundary-from_take bytes to u (omega (arith, h.to_is, h.fits)) (subst IsUtf8 (sym front) (IsUtf8-append (take at bytes) ys (utf8_before at b) w)))

  ends_before : (at to : ℕ) (ys : List ℕ) → IsBoundary text at → IsUtf8 ys → StandBefore bytes ys at to → IsBoundary text to
  ends_before at to ys b w h =
      let le : to ≤ at = omega (arith, h.to_is) in
      let back : drop to bytes ≡ ys ++ drop at bytes = drop_split bytes to at le ∙ ap (λ x. x ++ drop at bytes) (ap (λ n. slice_range bytes n at) h.to_is ∙ h.are) in
      boundary_of_char to (IsCharBoundary-from_drop bytes to (omega (arith, boundary_inside bytes unicode is_utf8 at b)) (subst IsUtf8 (sym back) (IsUtf8-append ys (drop at bytes) w (utf8_behind at b))))

  -- The bytes of a range stand beside a boundary exactly where its characters do.
  pub literal : (d : Direction) (at a b : ℕ) → IsBoundary text at → IsBoundary text a → IsBoundary text b → a ≤ b
      → past_numbers_if_next bytes (slice_range bytes a b) d at ≡ past_spelled_if_next text nat_eq (characters_between text a b) d at
  literal rightwards at a b at_b f g l =
      literal-right encode len_utf8 length-encode (chars bytes) bytes unicode (fold_char unicode) (spelled_by bytes u) len_utf8-positive injective at a b at_b f g l
      (λ to h. ends_behind at to (slice_range bytes a b) at_b (slice_is_utf8 a b f g l) h)
  literal leftwards at a b at_b f g l =
      literal-left encode len_utf8 length-encode (chars bytes) bytes unicode (fold_char unicode) (spelled_by bytes u) len_utf8-positive injective at a b at_b f g l
      (λ to h. ends_before at to (slice_range bytes a b) at_b (slice_is_utf8 a b f g l) h)
