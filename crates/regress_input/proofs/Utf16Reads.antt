-- Reading at a boundary of a UTF-16 text yields the character that its code units encode.
use Rattle.std.proofs.Common.{◌≡◌, ◌≢◌, ℕ, zero, suc, ◌+◌, ◌-◌, ◌/◌, ◌%◌, ◌<◌, ◌≤◌, ◌⊎◌, inl, inr, Bool, true, false, cond, if◌then◌else◌, not, ◌&&◌, List, [], ◌∷◌, ◌++◌, length, get_or, take, drop}
use Rattle.std.proofs.Common.{flat_map, slice_get, slice_index, nat_le, nat_eq, Some, None, refl}
use Rattle.std.proofs.Common.{sym, ◌∙◌, ap, ap₂, subst, arith, add-one, eq-eqb, ne_eqb, le-leb, leb-true, lt-ltb, le-ltb, get_or-drop}
use Rattle.std.proofs.Math.Bool.{and-true, and-false}
use Rattle.std.proofs.lemmas.Bool.{and_parts, lt-leb, and_from, false_from_ne_true, cases_lt}
use Rattle.regex_meaning.specs.Text.{Text, rightwards, leftwards, is_high_surrogate, is_low_surrogate, decode_surrogate_pair, utf16_width, utf16_characters, utf16_text, is_unit_boundary}
use Rattle.regex_meaning.specs.Text.{fold_code_point}
use Rattle.regex_meaning.specs.CodeUnitOffsets.{IsBoundary, units, read}
use Rattle.regex_meaning.specs.CodeUnits.{utf16, code_units_of_character, AreU16Units}
use Rattle.regex_meaning.specs.Laws.{is_within_pair}
use Rattle.regex_meaning.proofs.CodeUnitOffsetsLemmas.{utf16_text-IsText, utf16_width-positive}
use Rattle.regex_meaning.proofs.UnitBoundaryLemmas.{unit_boundary-place_at, unit_boundary-between, units-utf16, behind-first, single-width}
use Rattle.regex_meaning.proofs.BoolLemmas.{not-both}
use Rattle.regress_input.specs.TextSpellingAndOffsetLimit.{sized_utf16}
use Rattle.regress_input.specs.Utf16CharactersAtOffsets.{is_surrogate_pair_at, char_of_surrogate_pair_at, character_starting_at, character_before}
use Rattle.regress_input.proofs.BoundaryPositions.{pair, right_boundary, left_boundary, boundary_inside}
use Rattle.regress_input.proofs.SpelledTextLemmas.{ReadsRight, ReadsLeft, reads_right, reads_left, at_end, before_character, at_start, behind_character}

-- ---- The units of a character

abbrev high_of : ℕ → ℕ
high_of c = 0xD800 + (c - 0x1_0000) / 0x400

abbrev low_of : ℕ → ℕ
low_of c = 0xDC00 + (c - 0x1_0000) % 0x400

unfoldable pub spell : ℕ → List ℕ
spell c = code_units_of_character utf16 c

pub spell-one : (c : ℕ) → c < 0x1_0000 → spell c ≡ c ∷ []
unfolding spell
spell-one c l = ap (λ (b : Bool). cond b (c ∷ []) (high_of c ∷ low_of c ∷ [])) (lt-ltb c 0x1_0000 l)

pub spell-two : (c : ℕ) → 0x1_0000 ≤ c → spell c ≡ high_of c ∷ low_of c ∷ []
unfolding spell
spell-two c l = ap (λ (b : Bool). cond b (c ∷ []) (high_of c ∷ low_of c ∷ [])) (le-ltb c 0x1_0000 l)

width-two : (c : ℕ) → 0x1_0000 ≤ c → utf16_width c ≡ 2
width-two c l = ap (λ (b : Bool). cond b 2 1) (le-leb 0x1_0000 c l)

pub sized : (c : ℕ) → length (spell c) ≡ utf16_width c
unfolding spell
sized c = sized_utf16 c

-- ---- Surrogates

abbrev pub is_pair : ℕ → ℕ → Bool
is_pair u v = is_high_surrogate u && is_low_surrogate v

high_range : (u : ℕ) → is_high_surrogate u ≡ true → (0xD800 ≤ u) × (u ≤ 0xDBFF)
high_range u e = let both = and_parts (nat_le 0xD800 u) (nat_le u 0xDBFF) e in (leb-true 0xD800 u both.0, leb-true u 0xDBFF both.1)

low_range : (u : ℕ) → is_low_surrogate u ≡ true → (0xDC00 ≤ u) × (u ≤ 0xDFFF)
low_range u e = let both = and_parts (nat_le 0xDC00 u) (nat_le u 0xDFFF) e in (leb-true 0xDC00 u both.0, leb-true u 0xDFFF both.1)

pub pair_parts : (u v : ℕ) → is_pair u v ≡ true → (0xD800 ≤ u) × (u ≤ 0xDBFF) × (0xDC00 ≤ v) × (v ≤ 0xDFFF)
pair_parts u v e =
    let both = and_parts (is_high_surrogate u) (is_low_surrogate v) e in
    let h = high_range u both.0 in
    let l = low_range v both.1 in (h.0, h.1, l.0, l.1)

pair_of : (u v : ℕ) → 0xD800 ≤ u → u ≤ 0xDBFF → 0xDC00 ≤ v → v ≤ 0xDFFF → is_pair u v ≡ true
pair_of u v a b c d =
    and_from _ _ (and_from _ _ (le-leb 0xD800 u a) (le-leb u 0xDBFF b)) (and_from _ _ (le-leb 0xDC00 v c) (le-leb v 0xDFFF d))

-- A number on either side of a range is not in the range.
outside : (least most u : ℕ) → (u < least) ⊎ (most + 1 ≤ u) → least ≤ u → u ≤ most → ⊥
outside least most u (inl l) a b = absurd (omega arith)
outside least most u (inr l) a b = absurd (omega arith)

-- A surrogate pair begins with a high surrogate and ends with a low surrogate.
pub high_apart : (u v : ℕ) → (u < 0xD800) ⊎ (0xDC00 ≤ u) → is_pair u v ≡ false
high_apart u v h = false_from_ne_true (is_pair u v) (λ e. let r = pair_parts u v e in outside 0xD800 0xDBFF u h r.0 r.1)

pub low_apart : (u v : ℕ) → (v < 0xDC00) ⊎ (0xE000 ≤ v) → is_pair u v ≡ false
low_apart u v h = false_from_ne_true (is_pair u v) (λ e. let r = pair_parts u v e in outside 0xDC00 0xDFFF v h r.2 r.3)

-- The units of a character that has two are a surrogate pair, and the pair spells the character.
pub units_are_pair : (c : ℕ) → 0x1_0000 ≤ c → c < 0x11_0000 → is_pair (high_of c) (low_of c) ≡ true
units_are_pair c l m = pair_of (high_of c) (low_of c) (omega arith) (omega arith) (omega arith) (omega arith)

pub pair_of_units : (c : ℕ) → 0x1_0000 ≤ c → c < 0x11_0000 → decode_surrogate_pair (high_of c) (low_of c) ≡ c
pair_of_units c l m = omega arith

pub pair_range : (u v : ℕ) → (0x1_0000 ≤ decode_surrogate_pair u v) × (decode_surrogate_pair u v < 0x11_0000)
pair_range u v = (omega arith, omega arith)

spell-pair : (u v : ℕ) → is_pair u v ≡ true → spell (decode_surrogate_pair u v) ≡ u ∷ v ∷ []
spell-pair u v e =
    let r = pair_parts u v e in
    let h : high_of (decode_surrogate_pair u v) ≡ u = omega (arith, r.0, r.1, r.2, r.3) in
    let l : low_of (decode_surrogate_pair u v) ≡ v = omega (arith, r.0, r.1, r.2, r.3) in
    spell-two (decode_surrogate_pair u v) (pair_range u v).0 ∙ ap₂ (λ x y. x ∷ y ∷ []) h l

-- ---- Units as characters

pub decode-pair : (u v : ℕ) (us : List ℕ) → is_pair u v ≡ true → utf16_characters (u ∷ v ∷ us) ≡ decode_surrogate_pair u v ∷ utf16_characters us
decode-pair u v us e = ap (λ (b : Bool). cond b (decode_surrogate_pair u v ∷ utf16_characters us) (u ∷ utf16_characters (v ∷ us))) e

pub decode-apart : (u v : ℕ) (us : List ℕ) → is_pair u v ≡ false → utf16_characters (u ∷ v ∷ us) ≡ u ∷ utf16_characters (v ∷ us)
decode-apart u v us e = ap (λ (b : Bool). cond b (decode_surrogate_pair u v ∷ utf16_characters us) (u ∷ utf16_characters (v ∷ us))) e

-- The units of the characters of a list of units are that list.
pub spelled : (us : List ℕ) → AreU16Units us → flat_map spell (utf16_characters us) ≡ us
spelled [] small = refl
spelled (u ∷ []) small = ap (λ (l : List ℕ). l ++ []) (spell-one u (small 0 (omega arith)))
spelled (u ∷ v ∷ us) small =
    by (is_pair u v) refl (spelled us (behind-first v us (behind-first u (v ∷ us) small))) (spelled (v ∷ us) (behind-first u (v ∷ us) small))
  where
    by : (b : Bool) → is_pair u v ≡ b → flat_map spell (utf16_characters us) ≡ us → flat_map spell (utf16_characters (v ∷ us)) ≡ v ∷ us
        → flat_map spell (utf16_characters (u ∷ v ∷ us)) ≡ u ∷ v ∷ us
    by true e two one = ap (flat_map spell) (decode-pair u v us e) ∙ ap₂ (λ (l m : List ℕ). l ++ m) (spell-pair u v e) two
    by false e two one = ap (flat_map spell) (decode-apart u v us e) ∙ ap₂ (λ (l m : List ℕ). l ++ m) (spell-one u (small 0 (omega arith))) one

-- ---- Characters that units spell

-- The character and the next one are not a surrogate pair.
abbrev pub Apart : ℕ → List ℕ → Type 0
Apart c [] = Unit {0}
Apart c (d ∷ cs) = is_pair c d ≡ false

-- No two neighbouring characters are a surrogate pair, and each is a code point.
abbrev pub Decoded : List ℕ → Type 0
Decoded [] = Unit {0}
Decoded (c ∷ cs) = (c < 0x11_0000) × Apart c cs × Decoded cs

wide-apart : (c : ℕ) (cs : List ℕ) → 0x1_0000 ≤ c → Apart c cs
wide-apart c [] l = tt
wide-apart c (d ∷ cs) l = high_apart c d (inr (omega arith))

apart-units : (u v : ℕ) (us : List ℕ) → is_pair u v ≡ false → Apart u (utf16_characters (v ∷ us))
apart-units u v [] e = e
apart-units u v (w ∷ us) e = by (is_pair v w) refl
  where
    by : (b : Bool) → is_pair v w ≡ b → Apart u (utf16_characters (v ∷ w ∷ us))
    by true f = subst (Apart u) (sym (decode-pair v w us f)) (low_apart u (decode_surrogate_pair v w) (inr (let r = pair_range v w in omega (arith, r.0))))
    by false f = subst (Apart u) (sym (decode-apart v w us f)) e

pub decoded : (us : List ℕ) → AreU16Units us → Decoded (utf16_characters us)
decoded [] small = tt
decoded (u ∷ []) small = (omega (arith, small 0 (omega arith)), tt, tt)
decoded (u ∷ v ∷ us) small =
    by (is_pair u v) refl (decoded us (behind-first v us (behind-first u (v ∷ us) small))) (decoded (v ∷ us) (behind-first u (v ∷ us) small))
  where
    by : (b : Bool) → is_pair u v ≡ b → Decoded (utf16_characters us) → Decoded (utf16_characters (v ∷ us)) → Decoded (utf16_characters (u ∷ v ∷ us))
    by true e two one =
        subst Decoded (sym (decode-pair u v us e)) ((pair_range u v).1, wide-apart (decode_surrogate_pair u v) (utf16_characters us) (pair_range u v).0, two)
    by false e two one =
        subst Decoded (sym (decode-apart u v us e)) (omega (arith, small 0 (omega arith)), apart-units u v us e, one)

apart-take : (c : ℕ) (cs : List ℕ) (n : ℕ) → Apart c cs → Apart c (take n cs)
apart-take c [] zero a = tt
apart-take c [] (suc n) a = tt
apart-take c (d ∷ cs) zero a = tt
apart-take c (d ∷ cs) (suc n) a = a

pub decoded-take : (cs : List ℕ) (n : ℕ) → Decoded cs → Decoded (take n cs)
decoded-take [] zero d = tt
decoded-take [] (suc n) d = tt
decoded-take (c ∷ cs) zero d = tt
decoded-take (c ∷ cs) (suc n) d = (d.0, apart-take c cs n d.1, decoded-take cs n d.2)

pub decoded-drop : (cs : List ℕ) (n : ℕ) → Decoded cs → Decoded (drop n cs)
decoded-drop [] zero d = d
decoded-drop [] (suc n) d = d
decoded-drop (c ∷ cs) zero d = d
decoded-drop (c ∷ cs) (suc n) d = decoded-drop cs n d.2

decoded-get : (cs : List ℕ) (k c : ℕ) → Decoded cs → slice_get cs k ≡ Some c → c < 0x11_0000
decoded-get [] k c d e = absurd (cc)
decoded-get (x ∷ cs) zero c d e = let same : x ≡ c = cc in omega (arith, d.0)
decoded-get (x ∷ cs) (suc k) c d e = decoded-get cs k c d.2 e

-- Decoding the units of such characters yields the characters.
pub decode : (cs : List ℕ) → Decoded cs → utf16_characters (flat_map spell cs) ≡ cs
decode [] d = refl
decode (c ∷ cs) d = by (cases_lt c 0x1_0000) (decode cs d.2)
  where
    one : (cs : List ℕ) → Apart c cs → Decoded cs → c < 0x1_0000 → utf16_characters (flat_map spell cs) ≡ cs → utf16_characters (c ∷ flat_map spell cs) ≡ c ∷ cs
    one [] a d' l e = refl
    one (x ∷ cs) a d' l e = next (cases_lt x 0x1_0000)
      where
        next : (x < 0x1_0000) ⊎ (0x1_0000 ≤ x) → utf16_characters (c ∷ flat_map spell (x ∷ cs)) ≡ c ∷ x ∷ cs
        next (inl m) =
            let s : flat_map spell (x ∷ cs) ≡ x ∷ flat_map spell cs = ap (λ (l : List ℕ). l ++ flat_map spell cs) (spell-one x m) in
            ap (λ l. utf16_characters (c ∷ l)) s ∙ decode-apart c x (flat_map spell cs) a ∙ ap (λ l. c ∷ utf16_characters l) (sym s) ∙ ap (λ l. c ∷ l) e
        next (inr m) =
            let s : flat_map spell (x ∷ cs) ≡ high_of x ∷ low_of x ∷ flat_map spell cs = ap (λ (l : List ℕ). l ++ flat_map spell cs) (spell-two x m) in
            ap (λ l. utf16_characters (c ∷ l)) s
            ∙ decode-apart c (high_of x) (low_of x ∷ flat_map spell cs) (low_apart c (high_of x) (inl (omega (arith, d'.0))))
            ∙ ap (λ l. c ∷ utf16_characters l) (sym s) ∙ ap (λ l. c ∷ l) e

    by : (c < 0x1_0000) ⊎ (0x1_0000 ≤ c) → utf16_characters (flat_map spell cs) ≡ cs → utf16_characters (flat_map spell (c ∷ cs)) ≡ c ∷ cs
    by (inl l) more =
        ap (λ (s : List ℕ). utf16_characters (s ++ flat_map spell cs)) (spell-one c l) ∙ one cs d.1 d.2 l more
    by (inr l) more =
        ap (λ (s : List ℕ). utf16_characters (s ++ flat_map spell cs)) (spell-two c l)
        ∙ decode-pair (high_of c) (low_of c) (flat_map spell cs) (units_are_pair c l d.0)
        ∙ ap₂ (λ x xs. x ∷ xs) (pair_of_units c l d.0) more

-- ---- Boundaries

within-pair : (us : List ℕ) (i : ℕ) → is_within_pair us (i + 1) ≡ is_surrogate_pair_at us i
within-pair us i = ap (is_within_pair us) (add-one i) ∙ ap (λ k. is_high_surrogate (slice_index us i) && is_low_surrogate (slice_index us k)) (sym (add-one i))

module _ (us : List ℕ) (small : AreU16Units us) where
  pub boundary-start : (i : ℕ) → i ≡ 0 → is_unit_boundary us i ≡ true
  boundary-start i e = ap (is_unit_boundary us) e ∙ unit_boundary-between us 0 small ∙ ap (λ (b : Bool). b && true) (le-leb 0 (length us) (omega arith))

  pub boundary-end : (i : ℕ) → length us ≤ i → is_unit_boundary us i ≡ nat_eq i (length us)
  boundary-end i l = unit_boundary-between us i small ∙ ap (λ (b : Bool). nat_le i (length us) && not b) (outside i l) ∙ and-true (nat_le i (length us)) ∙ same (cases_lt (length us) i)
    where
      past : (k : ℕ) → length us ≤ k → slice_index us k ≡ 0
      past k m = none us k m
        where
          none : (xs : List ℕ) (k : ℕ) → length xs ≤ k → slice_index xs k ≡ 0
          none [] k m = refl
          none (x ∷ xs) zero m = absurd (omega arith)
          none (x ∷ xs) (suc k) m = none xs k (omega arith)

      outside : (i : ℕ) → length us ≤ i → is_within_pair us i ≡ false
      outside zero m = refl
      outside (suc j) m = low_apart (slice_index us j) (slice_index us (suc j)) (inl (omega (arith, past (suc j) m)))

      same : (length us < i) ⊎ (i ≤ length us) → nat_le i (length us) ≡ nat_eq i (length us)
      same (inl m) = lt-leb i (length us) m ∙ sym (ne_eqb i (length us) (λ e. absurd (omega arith)))
      same (inr m) = le-leb i (length us) m ∙ sym (eq-eqb i (length us) (omega arith))

  pub boundary-inside : (i : ℕ) → i ≢ 0 → i < length us → is_unit_boundary us i ≡ not (is_surrogate_pair_at us (i - 1))
  boundary-inside zero n l = absurd (n refl)
  boundary-inside (suc j) n l =
      let back : suc j - 1 ≡ j = omega arith in
      unit_boundary-between us (suc j) small ∙ ap (λ (b : Bool). b && not (is_within_pair us (suc j))) (le-leb (suc j) (length us) (omega arith))
      ∙ ap (λ n. not (is_within_pair us n)) (sym (add-one j)) ∙ ap not (within-pair us j) ∙ ap (λ n. not (is_surrogate_pair_at us n)) (sym back)

  module _ (unicode : Bool) where
    abbrev text : Text
    text = utf16_text us unicode

    pub unit_boundary : (at : ℕ) → IsBoundary text at → is_unit_boundary us at ≡ true
    unit_boundary at b = unit_boundary-place_at us unicode at ∙ b

    pub boundary_of_units : (at : ℕ) → is_unit_boundary us at ≡ true → IsBoundary text at
    boundary_of_units at e = sym (unit_boundary-place_at us unicode at) ∙ e

    pub units-length : units text ≡ length us
    units-length = units-utf16 us unicode small

    pub inside : (at : ℕ) → IsBoundary text at → at ≤ length us
    inside at b = omega (arith, boundary_inside text (utf16_text-IsText us unicode) at b, units-length)

    -- No surrogate pair stands around a boundary.
    none_around : (at : ℕ) → IsBoundary text (at + 1) → is_surrogate_pair_at us at ≡ false
    none_around at b = false_from_ne_true (is_surrogate_pair_at us at) (λ e.
        not-both (is_unit_boundary us (at + 1)) (unit_boundary (at + 1) b)
        (unit_boundary-between us (at + 1) small ∙ ap (λ (t : Bool). nat_le (at + 1) (length us) && not t) (within-pair us at ∙ e) ∙ and-false (nat_le (at + 1) (length us))))

    -- ---- Reads

    abbrev fold : ℕ → ℕ
    fold = fold_code_point unicode

    right : (at : ℕ) → IsBoundary text at → ReadsRight spell utf16_width sized text (utf16_characters us) us at
    right = reads_right spell utf16_width sized (utf16_characters us) us unicode fold (spelled us small) utf16_width-positive

    left : (at : ℕ) → IsBoundary text at → ReadsLeft spell utf16_width sized text (utf16_characters us) us at
    left = reads_left spell utf16_width sized (utf16_characters us) us unicode fold (spelled us small) utf16_width-positive

    -- A unit from an offset on is the unit with the same index in the list that begins there.
    seen : (at i : ℕ) (p rest : List ℕ) → drop at us ≡ p ++ rest → slice_index us (at + i) ≡ slice_index (p ++ rest) i
    seen at i p rest e = sym (get_or-drop at us i 0) ∙ ap (λ l. get_or l i 0) e

    seen_first : (at : ℕ) (p rest : List ℕ) → drop at us ≡ p ++ rest → slice_index us at ≡ slice_index (p ++ rest) 0
    seen_first at p rest e = let z : at ≡ at + 0 = omega arith in ap (slice_index us) z ∙ seen at 0 p rest e

    -- A character of one unit is that unit, and a character of two units is their pair.
    is_one : (at c : ℕ) (rest : List ℕ) → c < 0x1_0000 → drop at us ≡ spell c ++ rest → slice_index us at ≡ c
    is_one at c rest l e = seen_first at (c ∷ []) rest (e ∙ ap (λ (p : List ℕ). p ++ rest) (spell-one c l))

    is_two : (at c : ℕ) (rest : List ℕ) → 0x1_0000 ≤ c → c < 0x11_0000 → drop at us ≡ spell c ++ rest → (is_surrogate_pair_at us at ≡ true) × (char_of_surrogate_pair_at us at ≡ c)
    is_two at c rest l m e =
        let spells : drop at us ≡ (high_of c ∷ low_of c ∷ []) ++ rest = e ∙ ap (λ (p : List ℕ). p ++ rest) (spell-two c l) in
        let h : slice_index us at ≡ high_of c = seen_first at (high_of c ∷ low_of c ∷ []) rest spells in
        let o : slice_index us (at + 1) ≡ low_of c = seen at 1 (high_of c ∷ low_of c ∷ []) rest spells in
        (ap₂ is_pair h o ∙ units_are_pair c l m, ap₂ decode_surrogate_pair h o ∙ pair_of_units c l m)

    code_point : (k c : ℕ) → slice_get (utf16_characters us) k ≡ Some c → c < 0x11_0000
    code_point k c g = decoded-get (utf16_characters us) k c (decoded us small) g

    choice : (b : Bool) (t : Bool) (x y : ℕ × ℕ) → b ≡ t → (if b then x else y) ≡ (if t then x else y)
    choice b t x y e = ap (λ (s : Bool). if s then x else y) e

    pub read-end : (at : ℕ) → IsBoundary text at → at ≡ length us → read text rightwards at ≡ None
    read-end at b e = elim (right at b) [
      | at_end z r ↦ r
      | before_character k c rest g s l r ↦ absurd (omega (arith, utf16_width-positive c))
    ]

    pub read-right : (at : ℕ) → IsBoundary text at → at ≢ length us → read text rightwards at ≡ Some (character_starting_at us at)
    read-right at b n = elim (right at b) [
      | at_end z r ↦ absurd (n z)
      | before_character k c rest g s l r ↦ by k c rest g s r (cases_lt c 0x1_0000)
    ]
      where
        by : (k c : ℕ) (rest : List ℕ) → slice_get (utf16_characters us) k ≡ Some c → drop at us ≡ spell c ++ rest
            → read text rightwards at ≡ Some (pair c (at + utf16_width c)) → (c < 0x1_0000) ⊎ (0x1_0000 ≤ c) → read text rightwards at ≡ Some (character_starting_at us at)
        by k c rest g s r (inl l) =
            let to : at + utf16_width c ≡ at + 1 = ap (λ w. at + w) (single-width c l) in
            let none : is_surrogate_pair_at us at ≡ false = none_around at (subst (IsBoundary text) to (right_boundary text (utf16_text-IsText us unicode) at c (at + utf16_width c) r)) in
            r ∙ ap₂ (λ x y. Some (pair x y)) (sym (is_one at c rest l s)) to
            ∙ ap Some (sym (choice (is_surrogate_pair_at us at) false (char_of_surrogate_pair_at us at, at + 2) (slice_index us at, at + 1) none))
        by k c rest g s r (inr l) =
            let to : at + utf16_width c ≡ at + 2 = ap (λ w. at + w) (width-two c l) in
            let two = is_two at c rest l (code_point k c g) s in
            r ∙ ap₂ (λ x y. Some (pair x y)) (sym two.1) to
            ∙ ap Some (sym (choice (is_surrogate_pair_at us at) true (char_of_surrogate_pair_at us at, at + 2) (slice_index us at, at + 1) two.0))

    pub read-start : (at : ℕ) → IsBoundary text at → at ≡ 0 → read text leftwards at ≡ None
    read-start at b e = elim (left at b) [
      | at_start z r ↦ r
      | behind_character k c start rest g s m l r ↦ absurd (omega (arith, utf16_width-positive c))
    ]

    pub read-left : (at : ℕ) → IsBoundary text at → at ≢ 0 → read text leftwards at ≡ Some (character_before us at)
    read-left at b n = elim (left at b) [
      | at_start z r ↦ absurd (n z)
      | behind_character k c start rest g s m l r ↦ by k c start rest g s m r (cases_lt c 0x1_0000)
    ]
      where
        by : (k c start : ℕ) (rest : List ℕ) → slice_get (utf16_characters us) k ≡ Some c → drop start us ≡ spell c ++ rest → start + utf16_width c ≡ at
            → read text leftwards at ≡ Some (pair c start) → (c < 0x1_0000) ⊎ (0x1_0000 ≤ c) → read text leftwards at ≡ Some (character_before us at)
        by k c start rest g s m r (inl l) =
            let from : start ≡ at - 1 = omega (arith, m, single-width c l) in
            let there : IsBoundary text start = left_boundary text (utf16_text-IsText us unicode) at c start r in
            let value : c ≡ slice_index us (at - 1) = sym (is_one start c rest l s) ∙ ap (slice_index us) from in
            r ∙ ap₂ (λ x y. Some (pair x y)) value from
            ∙ ap Some (sym (choice (nat_le 2 at && is_surrogate_pair_at us (at - 2)) false (char_of_surrogate_pair_at us (at - 2), at - 2) (slice_index us (at - 1), at - 1) (none there from (cases_lt at 2))))
          where
            none : IsBoundary text start → start ≡ at - 1 → (at < 2) ⊎ (2 ≤ at) → (nat_le 2 at && is_surrogate_pair_at us (at - 2)) ≡ false
            none there from (inl o) = ap (λ (t : Bool). t && is_surrogate_pair_at us (at - 2)) (lt-leb 2 at o)
            none there from (inr o) =
                let back : start ≡ at - 2 + 1 = omega arith in
                ap₂ (λ (s t : Bool). s && t) (le-leb 2 at o) (none_around (at - 2) (subst (IsBoundary text) back there))
        by k c start rest g s m r (inr l) =
            let from : start ≡ at - 2 = omega (arith, m, width-two c l) in
            let two = is_two start c rest l (code_point k c g) s in
            let stands : is_surrogate_pair_at us (at - 2) ≡ true = ap (is_surrogate_pair_at us) (sym from) ∙ two.0 in
            let value : c ≡ char_of_surrogate_pair_at us (at - 2) = sym two.1 ∙ ap (char_of_surrogate_pair_at us) from in
            let far : 2 ≤ at = omega (arith, m, width-two c l) in
            r ∙ ap₂ (λ x y. Some (pair x y)) value from
            ∙ ap Some (sym (choice (nat_le 2 at && is_surrogate_pair_at us (at - 2)) true (char_of_surrogate_pair_at us (at - 2), at - 2) (slice_index us (at - 1), at - 1) (and_from _ _ (le-leb 2 at far) stands)))

    -- ---- Results of the readers

    pub right-is : (at : ℕ) → IsBoundary text at → at ≢ length us → (r : ℕ × ℕ) → r ≡ character_starting_at us at → read text rightwards at ≡ Some (pair r.0 r.1)
    right-is at b n r e = read-right at b n ∙ ap Some (sym e)

    pub left-is : (at : ℕ) → IsBoundary text at → at ≢ 0 → (r : ℕ × ℕ) → r ≡ character_before us at → read text leftwards at ≡ Some (pair r.0 r.1)
    left-is at b n r e = read-left at b n ∙ ap Some (sym e)
