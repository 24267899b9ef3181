-- A test of bytes passes exactly if the test of the character that they encode passes.
use Rattle.std.proofs.Common.{◌≡◌, ℕ, zero, suc, ◌+◌, ◌-◌, ◌<◌, ◌≤◌, ◌⊎◌, inl, inr, ⊎_elim, List, [], ◌∷◌, ◌++◌, ◌&&◌, ◌||◌, length, get_or, take, drop, flat_map, slice_range, Bool, true, false}
use Rattle.std.proofs.Common.{if◌then◌else◌, nat_eq, All, chars, encode_utf8, Some, None}
use Rattle.std.proofs.Common.{option_and_then, refl, sym, ◌∙◌, ap, ap₂, subst, arith, ne_eqb, eqb-true, eq-eqb, take_at}
use Rattle.std.proofs.lemmas.List.{append-nil}
use Rattle.std.proofs.Math.Bool.{and-true}
use Rattle.std.proofs.lemmas.Bool.{cases_lt}
use lib.Pointwise.{pointwise}
use lib.Utf8.{scalars, encode, encodes}
use Rattle.std.specs.Char.{IsScalar, len_utf8}
use Rattle.std.specs.List.{list_any}
use Rattle.std.proofs.lemmas.Option.{slice_get_past, slice_get-get_or}
use Rattle.std.proofs.lemmas.List.Folds.{drop_split}
use Rattle.std.proofs.lemmas.Str.{encodes_same, encode_same, length-encode, len_utf8_ascii, chars-encodes}
use Rattle.regex_meaning.specs.NumberListHelpers.{contains}
use Rattle.regex_meaning.specs.Text.{Text, Direction, rightwards, leftwards}
use Rattle.regex_meaning.specs.Tree.{byte_sequence}
use Rattle.regex_meaning.specs.Outcomes.{accepts}
use Rattle.regex_meaning.specs.CodeUnitOffsets.{HasRisingPlaceOffsets, IsBoundary, units, read}
use Rattle.regress_input.specs.CharAndByteReadsFromOffset.{IsEncodedInUtf8, bytes_of, adjacent_byte, offset_after_one_unit, end_if_matched, past_if, past_numbers_if_next}
use Rattle.regress_input.specs.Utf8.{IsEncodedAt, IsEncodedBetween}
use Rattle.regress_input.proofs.SpelledTextLemmas.{ReadsRight, ReadsLeft, reads_right, reads_left, at_end, before_character, at_start, behind_character, text_of, length-units}
use Rattle.regress_input.proofs.TextSlices.{same_option, StandBehind, StandBefore, past_bytes-right, right-past_bytes, past_bytes-left, left-past_bytes, chosen}
use Rattle.regress_input.proofs.Utf8Reads.{Bytes, one, two, three, four, bytes_at, back_one, back_two, back_three, back_four, encodes-flat_map, scalar_among}
use Rattle.regex_meaning.proofs.CodeUnitOffsetsLemmas.{len_utf8-positive}

-- ---- Sets of ASCII bytes

contains-high : (members : List ℕ) → All (λ b. b < 128) members → (b : ℕ) → 128 ≤ b → contains members b ≡ false
contains-high [] h b l = refl
contains-high (m ∷ members) h b l =
    let differs : nat_eq b m ≡ false = ne_eqb b m (λ e. absurd (omega (arith, h 0 0 (omega arith)))) in
    ap (λ (t : Bool). t || list_any (nat_eq b) members) differs ∙ contains-high members (λ k d inside. h (suc k) d (omega arith)) b l

-- A character of more than one byte is not an ASCII character.
wide : (c : ℕ) → 2 ≤ len_utf8 c → 128 ≤ c
wide c l = ⊎_elim (λ h. absurd (omega (arith, len_utf8_ascii c h))) (λ h. h) (cases_lt c 128)

-- ---- The bytes of one character alone

module _ (literal : List ℕ) (c : ℕ) (is_scalar : IsScalar c) (spells : literal ≡ encode_utf8 c) where
  bare : literal ≡ encode c ++ []
  bare = spells ∙ sym (append-nil (encode c))

  -- The bytes of a character encode the character at their start.
  pub stands_alone : IsEncodedAt literal 0 c
  stands_alone = record { scalar = is_scalar; rest = []; spelled = bare }

  -- The byte sequence of a character accepts exactly this character.
  pub test_is : (d : ℕ) → accepts (byte_sequence literal) d ≡ nat_eq c d
  test_is d =
      let one_char : chars (encodes (c ∷ [])) ≡ c ∷ [] = chars-encodes (c ∷ []) (ap (λ (b : Bool). b && true) is_scalar) in
      ap (λ (l : List ℕ). pointwise nat_eq (chars l) (d ∷ [])) bare ∙ ap (λ (l : List ℕ). pointwise nat_eq l (d ∷ [])) one_char ∙ and-true (nat_eq c d)

-- ---- Only one character ends at an offset

pub ends_same : (bytes : List ℕ) (end s c t d : ℕ) → IsEncodedBetween bytes end s c → IsEncodedBetween bytes end t d → (s ≡ t) × (c ≡ d)
ends_same bytes end s c t d a b = by (cases_lt (get_or bytes (end - 1) 0) 128) (cases_lt (get_or bytes (end - 2) 0) 192) (cases_lt (get_or bytes (end - 3) 0) 192)
  where
    by : (get_or bytes (end - 1) 0 < 128) ⊎ (128 ≤ get_or bytes (end - 1) 0)
        → (get_or bytes (end - 2) 0 < 192) ⊎ (192 ≤ get_or bytes (end - 2) 0)
        → (get_or bytes (end - 3) 0 < 192) ⊎ (192 ≤ get_or bytes (end - 3) 0) → (s ≡ t) × (c ≡ d)
    by (inl h) _ _ =
        let x = back_one bytes end s c a h in
        let y = back_one bytes end t d b h in (omega arith, omega arith)
    by (inr h) (inr i) _ =
        let x = back_two bytes end s c a h i in
        let y = back_two bytes end t d b h i in (omega arith, omega arith)
    by (inr h) (inl i) (inr j) =
        let x = back_three bytes end s c a h i j in
        let y = back_three bytes end t d b h i j in (omega arith, omega arith)
    by (inr h) (inl i) (inl j) =
        let x = back_four bytes end s c a h i j in
        let y = back_four bytes end t d b h i j in (omega arith, omega arith)

-- The last byte of a character is the character itself, or both are beyond ASCII.
last_byte : (bytes : List ℕ) (end start c : ℕ) → IsEncodedBetween bytes end start c
    → ((get_or bytes (end - 1) 0 ≡ c) × (end - 1 ≡ start)) ⊎ ((128 ≤ get_or bytes (end - 1) 0) × (128 ≤ c))
last_byte bytes end start c s = by (cases_lt (get_or bytes (end - 1) 0) 128)
  where
    by : (get_or bytes (end - 1) 0 < 128) ⊎ (128 ≤ get_or bytes (end - 1) 0)
        → ((get_or bytes (end - 1) 0 ≡ c) × (end - 1 ≡ start)) ⊎ ((128 ≤ get_or bytes (end - 1) 0) × (128 ≤ c))
    by (inl h) = inl (back_one bytes end start c s h)
    by (inr h) = inr (
      h,
      elim (bytes_at bytes start c s.stands) [
        | one l n m e ↦ let same : get_or bytes (end - 1) 0 ≡ get_or bytes start 0 = (let i : end - 1 ≡ start = omega (arith, s.ends) in ap (λ k. get_or bytes k 0) i) in absurd (omega arith)
        | two l n m o f e ↦ wide c (omega arith)
        | three l n m o f g e ↦ wide c (omega arith)
        | four l n m o f g k e ↦ wide c (omega arith)
      ],
    )

module _ (text : Text) (is_text : HasRisingPlaceOffsets text) (w : IsEncodedInUtf8 text) where
  abbrev cs : List ℕ
  cs = text.characters

  abbrev bytes : List ℕ
  bytes = bytes_of text

  same : text ≡ text_of len_utf8 cs text.unicode text.fold
  same = ap (λ (os : List ℕ). record text { offsets = os }) w.offsets

  spelled : flat_map encode cs ≡ bytes
  spelled = sym (encodes-flat_map cs)

  in_scalars : scalars cs ≡ true
  in_scalars = ap scalars (encodes_same cs w.bytes.0 (sym w.bytes.1.1)) ∙ w.bytes.1.0

  -- The length of the text in units is the number of its bytes.
  pub units-bytes_of : units text ≡ length bytes
  units-bytes_of = ap units same ∙ length-units encode len_utf8 length-encode cs bytes text.unicode text.fold spelled len_utf8-positive

  abbrev Right : (at : ℕ) → Type 0
  Right at = ReadsRight encode len_utf8 length-encode text cs bytes at

  abbrev Left : (at : ℕ) → Type 0
  Left at = ReadsLeft encode len_utf8 length-encode text cs bytes at

  right : (at : ℕ) → IsBoundary text at → Right at
  right at = subst (λ t. IsBoundary t at → ReadsRight encode len_utf8 length-encode t cs bytes at) (sym same)
      (reads_right encode len_utf8 length-encode cs bytes text.unicode text.fold spelled len_utf8-positive at)

  left : (at : ℕ) → IsBoundary text at → Left at
  left at = subst (λ t. IsBoundary t at → ReadsLeft encode len_utf8 length-encode t cs bytes at) (sym same)
      (reads_left encode len_utf8 length-encode cs bytes text.unicode text.fold spelled len_utf8-positive at)

  -- If a character is read, the test of this character decides whether a tested read succeeds.
  accepted_at : (f : ℕ → Bool) (d : Direction) (at c to : ℕ) → read text d at ≡ Some (c, to) → past_if text f d at ≡ (if f c then Some to else None)
  accepted_at f d at c to r = ap (option_and_then (λ (r : ℕ × ℕ). if f r.0 then Some r.1 else None)) r

  none_at : (f : ℕ → Bool) (d : Direction) (at : ℕ) → read text d at ≡ None → past_if text f d at ≡ None
  none_at f d at r = ap (option_and_then (λ (r : ℕ × ℕ). if f r.0 then Some r.1 else None)) r

  -- If there is no byte beside a boundary, no character is accepted there.
  pub no_byte : (f : ℕ → Bool) (d : Direction) (at : ℕ) → IsBoundary text at → adjacent_byte bytes d at ≡ None → past_if text f d at ≡ None
  no_byte f rightwards at b e = elim (right at b) [
    | at_end z r ↦ none_at f rightwards at r
    | before_character k c rest g s l r ↦
        let some : at < length bytes = omega (arith, len_utf8-positive c) in absurd (absent some)
  ]
    where
      absent : at < length bytes → ⊥
      absent l = let got = slice_get-get_or bytes at 0 l in cc
  no_byte f leftwards zero b e = elim (left zero b) [
    | at_start z r ↦ none_at f leftwards zero r
    | behind_character k c start rest g s m l r ↦ absurd (omega (arith, len_utf8-positive c))
  ]
  no_byte f leftwards (suc n) b e = elim (left (suc n) b) [
    | at_start z r ↦ absurd (omega arith)
    | behind_character k c start rest g s m l r ↦ let inside : n < length bytes = omega arith in absurd (absent inside)
  ]
    where
      absent : n < length bytes → ⊥
      absent l = let got = slice_get-get_or bytes n 0 l in cc

  -- A test for a set of ASCII bytes passes at a boundary exactly if the test for characters does.
  pub byte_in_set : (members : List ℕ) → All (λ b. b < 128) members → (d : Direction) (at byte to : ℕ) → IsBoundary text at
      → Some byte ≡ adjacent_byte bytes d at → to ≡ offset_after_one_unit d at → end_if_matched (contains members byte) to ≡ past_if text (contains members) d at
  byte_in_set members h rightwards at byte to b e t = elim (right at b) [
    | at_end z r ↦ absurd (none z)
    | before_character k c rest g s l r ↦
        let stands : IsEncodedAt bytes at c = record { scalar = scalar_among cs k c in_scalars g; rest = rest; spelled = s } in
        both c r (bytes_at bytes at c stands)
  ]
    where
      none : at ≡ length bytes → ⊥
      none z = let past = slice_get_past bytes at (omega arith) in cc

      byte_is : at < length bytes → byte ≡ get_or bytes at 0
      byte_is l = let got = slice_get-get_or bytes at 0 l in cc

      high : (c : ℕ) → read text rightwards at ≡ Some (c, at + len_utf8 c) → at < length bytes → 128 ≤ get_or bytes at 0 → 2 ≤ len_utf8 c
          → end_if_matched (contains members byte) to ≡ past_if text (contains members) rightwards at
      high c r l m n =
          let no_b : contains members byte ≡ false = contains-high members h byte (omega (arith, byte_is l)) in
          let no_c : contains members c ≡ false = contains-high members h c (wide c n) in
          ap (λ t. end_if_matched t to) no_b ∙ sym (accepted_at (contains members) rightwards at c (at + len_utf8 c) r ∙ ap (λ t. end_if_matched t (at + len_utf8 c)) no_c)

      both : (c : ℕ) → read text rightwards at ≡ Some (c, at + len_utf8 c) → Bytes bytes at c → end_if_matched (contains members byte) to ≡ past_if text (contains members) rightwards at
      both c r (one l n m e') =
          let is : byte ≡ c = byte_is (omega arith) ∙ e' in
          let past : to ≡ at + len_utf8 c = omega arith in
          ap₂ (λ x y. end_if_matched (contains members x) y) is past ∙ sym (accepted_at (contains members) rightwards at c (at + len_utf8 c) r)
      both c r (two l n m o f e') = high c r (omega arith) (omega arith) (omega arith)
      both c r (three l n m o f g e') = high c r (omega arith) (omega arith) (omega arith)
      both c r (four l n m o f g k e') = high c r (omega arith) (omega arith) (omega arith)
  byte_in_set members h leftwards zero byte to b e t = absurd (cc)
  byte_in_set members h leftwards (suc n) byte to b e t = elim (left (suc n) b) [
    | at_start z r ↦ absurd (omega arith)
    | behind_character k c start rest g s m l r ↦
        let ends : IsEncodedBetween bytes (suc n) start c = record { stands = record { scalar = scalar_among cs k c in_scalars g; rest = rest; spelled = s }; ends = m } in
        both c start r l (last_byte bytes (suc n) start c ends)
  ]
    where
      byte_is : suc n ≤ length bytes → byte ≡ get_or bytes (suc n - 1) 0
      byte_is l =
          let got = slice_get-get_or bytes n 0 (omega arith) in
          let i : n ≡ suc n - 1 = omega arith in
          let first : byte ≡ get_or bytes n 0 = cc in first ∙ ap (λ j. get_or bytes j 0) i

      both : (c start : ℕ) → read text leftwards (suc n) ≡ Some (c, start) → suc n ≤ length bytes
          → ((get_or bytes (suc n - 1) 0 ≡ c) × (suc n - 1 ≡ start)) ⊎ ((128 ≤ get_or bytes (suc n - 1) 0) × (128 ≤ c))
          → end_if_matched (contains members byte) to ≡ past_if text (contains members) leftwards (suc n)
      both c start r l (inl (i, j)) =
          let is : byte ≡ c = byte_is l ∙ i in
          let past : to ≡ start = omega arith in
          ap₂ (λ x y. end_if_matched (contains members x) y) is past ∙ sym (accepted_at (contains members) leftwards (suc n) c start r)
      both c start r l (inr (i, j)) =
          let no_b : contains members byte ≡ false = contains-high members h byte (omega (arith, byte_is l)) in
          let no_c : contains members c ≡ false = contains-high members h c j in
          ap (λ t. end_if_matched t to) no_b ∙ sym (accepted_at (contains members) leftwards (suc n) c start r ∙ ap (λ t. end_if_matched t start) no_c)

  -- ---- The bytes of one character

  module _ (literal : List ℕ) (c : ℕ) (is_scalar : IsScalar c) (spells : literal ≡ encode_utf8 c) where
    long : length literal ≡ len_utf8 c
    long = ap length spells ∙ length-encode c

    pub literal_accepts : (d : Direction) (at : ℕ) → IsBoundary text at → past_numbers_if_next bytes literal d at ≡ past_if text (accepts (byte_sequence literal)) d at
    literal_accepts rightwards at b = elim (right at b) [
      | at_end z r ↦ same_option (past_numbers_if_next bytes literal rightwards at) (past_if text (accepts (byte_sequence literal)) rightwards at)
          (λ to e. let h = past_bytes-right bytes literal at to e in absurd (omega (arith, h.fits, long, len_utf8-positive c)))
          (λ to e. absurd (none to (sym (none_at (accepts (byte_sequence literal)) rightwards at r) ∙ e)))
      | before_character k d rest g s l r ↦ same_option (past_numbers_if_next bytes literal rightwards at) (past_if text (accepts (byte_sequence literal)) rightwards at)
          (λ to e. there d rest s r to (past_bytes-right bytes literal at to e))
          (λ to e. back d rest s l to (sym (accepted_at (accepts (byte_sequence literal)) rightwards at d (at + len_utf8 d) r) ∙ e))
    ]
      where
        none : (to : ℕ) → None ≡ Some to → ⊥
        none to e = cc

        there : (d : ℕ) (rest : List ℕ) → drop at bytes ≡ encode d ++ rest → read text rightwards at ≡ Some (d, at + len_utf8 d) → (to : ℕ) → StandBehind bytes literal at to
            → past_if text (accepts (byte_sequence literal)) rightwards at ≡ Some to
        there d rest s r to h =
            let parts : encode d ++ rest ≡ encode c ++ drop (at + length literal) bytes =
            sym s ∙ drop_split bytes at (at + length literal) (omega arith) ∙ ap (λ l. l ++ drop (at + length literal) bytes) (h.are ∙ spells) in
            let is : d ≡ c = (encode_same d c rest (drop (at + length literal) bytes) parts).0 in
            let test : accepts (byte_sequence literal) d ≡ true = test_is literal c is_scalar spells d ∙ eq-eqb c d (sym is) in
            let end : at + len_utf8 d ≡ to = omega (arith, h.to_is, long, ap len_utf8 is) in
            accepted_at (accepts (byte_sequence literal)) rightwards at d (at + len_utf8 d) r ∙ ap (λ (t : Bool). end_if_matched t (at + len_utf8 d)) test ∙ ap Some end

        back : (d : ℕ) (rest : List ℕ) → drop at bytes ≡ encode d ++ rest → at + len_utf8 d ≤ length bytes → (to : ℕ)
            → (if accepts (byte_sequence literal) d then Some (at + len_utf8 d) else None) ≡ Some to → past_numbers_if_next bytes literal rightwards at ≡ Some to
        back d rest s l to e =
            let made = chosen (accepts (byte_sequence literal) d) (at + len_utf8 d) to e in
            let is : c ≡ d = eqb-true c d (sym (test_is literal c is_scalar spells d) ∙ made.0) in
            let same_len : length literal ≡ len_utf8 d = long ∙ ap len_utf8 is in
            let whole : literal ≡ encode d = spells ∙ ap encode is in
            let n : at + length literal - at ≡ length literal = omega arith in
            right-past_bytes bytes literal at to (record {
              to_is = omega arith;
              fits = omega arith;
              are = ap (λ k. take k (drop at bytes)) n ∙ ap (take (length literal)) s ∙ take_at (encode d) rest (length literal) (sym (ap length whole)) ∙ sym whole;
            })
    literal_accepts leftwards at b = elim (left at b) [
      | at_start z r ↦ same_option (past_numbers_if_next bytes literal leftwards at) (past_if text (accepts (byte_sequence literal)) leftwards at)
          (λ to e. let h = past_bytes-left bytes literal at to e in absurd (omega (arith, h.fits, long, len_utf8-positive c)))
          (λ to e. absurd (none to (sym (none_at (accepts (byte_sequence literal)) leftwards at r) ∙ e)))
      | behind_character k d start rest g s m l r ↦
          let ends : IsEncodedBetween bytes at start d = record { stands = record { scalar = scalar_among cs k d in_scalars g; rest = rest; spelled = s }; ends = m } in
          same_option (past_numbers_if_next bytes literal leftwards at) (past_if text (accepts (byte_sequence literal)) leftwards at)
          (λ to e. there d start ends l r to (past_bytes-left bytes literal at to e))
          (λ to e. back d start rest s m to (sym (accepted_at (accepts (byte_sequence literal)) leftwards at d start r) ∙ e))
    ]
      where
        none : (to : ℕ) → None ≡ Some to → ⊥
        none to e = cc

        there : (d start : ℕ) → IsEncodedBetween bytes at start d → at ≤ length bytes → read text leftwards at ≡ Some (d, start) → (to : ℕ) → StandBefore bytes literal at to
            → past_if text (accepts (byte_sequence literal)) leftwards at ≡ Some to
        there d start ends l r to h =
            let parts : drop to bytes ≡ encode c ++ drop at bytes =
            drop_split bytes to at (omega (arith, h.to_is)) ∙ ap (λ l. l ++ drop at bytes) (ap (λ n. slice_range bytes n at) h.to_is ∙ h.are ∙ spells) in
            let also : IsEncodedBetween bytes at to c = record { stands = record { scalar = is_scalar; rest = drop at bytes; spelled = parts }; ends = omega (arith, h.to_is, h.fits, long) } in
            let is = ends_same bytes at start d to c ends also in
            let test : accepts (byte_sequence literal) d ≡ true = test_is literal c is_scalar spells d ∙ eq-eqb c d (sym is.1) in
            accepted_at (accepts (byte_sequence literal)) leftwards at d start r ∙ ap (λ (t : Bool). end_if_matched t start) test ∙ ap Some is.0

        back : (d start : ℕ) (rest : List ℕ) → drop start bytes ≡ encode d ++ rest → start + len_utf8 d ≡ at → (to : ℕ)
            → (if accepts (byte_sequence literal) d then Some start else None) ≡ Some to → past_numbers_if_next bytes literal leftwards at ≡ Some to
        back d start rest s m to e =
            let made = chosen (accepts (byte_sequence literal) d) start to e in
            let is : c ≡ d = eqb-true c d (sym (test_is literal c is_scalar spells d) ∙ made.0) in
            let same_len : length literal ≡ len_utf8 d = long ∙ ap len_utf8 is in
            let whole : literal ≡ encode d = spells ∙ ap encode is in
            let begin : at - length literal ≡ start = omega arith in
            let n : at - start ≡ length literal = omega arith in
            left-past_bytes bytes literal at to (record {
              to_is = omega arith;
              fits = omega arith;
              are = ap (λ k. slice_range bytes k at) begin ∙ ap (λ k. take k (drop start bytes)) n ∙ ap (take (length literal)) s ∙ take_at (encode d) rest (length literal) (sym (ap length whole)) ∙ sym whole;
            })
