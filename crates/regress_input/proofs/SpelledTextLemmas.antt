-- A boundary of a text splits its code units into those of the characters before and after it.
use Rattle.std.proofs.Common.{◌≡◌, ℕ, zero, suc, ◌+◌, ◌-◌, ◌<◌, ◌≤◌, List, [], ◌∷◌, ◌++◌, length, get_or, take, drop, map, flat_map, slice_get, Bool, Option, Some, None, option_map, refl, sym, ◌∙◌}
use Rattle.std.proofs.Common.{ap, arith, length-append, take-append-drop, take_at, drop_at, take_all}
use Rattle.std.proofs.Common.{length-take, length-drop, add-one}
use Rattle.std.proofs.lemmas.List.Concat.{flat_map-append}
use Rattle.regex_meaning.specs.Text.{Text, rightwards, leftwards, offsets_from}
use Rattle.regex_meaning.specs.CodeUnitOffsets.{HasRisingPlaceOffsets, offset, IsBoundary, read}
use Rattle.regex_meaning.proofs.CodeUnitOffsetsLemmas.{offsets-rise, length-offsets, first-offset}
use Rattle.regress_input.proofs.ListRangeLemmas.{get-cons}
use Rattle.regress_input.proofs.BoundaryPositions.{HasPlace, place_of_boundary, read-place}

-- This is the text of characters with these widths.
abbrev pub text_of : (width : ℕ → ℕ) → List ℕ → (unicode : Bool) → (fold : ℕ → ℕ) → Text
text_of width cs unicode fold = record { characters = cs; offsets = offsets_from 0 (map width cs); unicode = unicode; fold = fold }

pub is_text : (width : ℕ → ℕ) (positive : (c : ℕ) → 0 < width c) (cs : List ℕ) (unicode : Bool) (fold : ℕ → ℕ) → HasRisingPlaceOffsets (text_of width cs unicode fold)
is_text width positive cs unicode fold = record { from_zero = first-offset width cs 0; rises = offsets-rise width cs 0 positive; one_offset_per_place = length-offsets width cs 0 }

module _ (spell : ℕ → List ℕ) (width : ℕ → ℕ) (sized : (c : ℕ) → length (spell c) ≡ width c) where
  -- These are the units of the characters.
  abbrev pub spelling : List ℕ → List ℕ
  spelling cs = flat_map spell cs

  -- An offset is the number of the units before it.
  pub offset-spelling : (a : ℕ) (cs : List ℕ) (k : ℕ) → k ≤ length cs → get_or (offsets_from a (map width cs)) k 0 ≡ a + length (spelling (take k cs))
  offset-spelling a [] zero l = omega arith
  offset-spelling a [] (suc k) l = absurd (omega arith)
  offset-spelling a (c ∷ cs) zero l = omega arith
  offset-spelling a (c ∷ cs) (suc k) l =
      omega (arith, offset-spelling (a + width c) cs k (omega arith), length-append (spell c) (spelling (take k cs)), sized c)

  -- A cut divides the units and the characters at the same place.
  pub record Cut (cs us : List ℕ) (at k : ℕ) : Type 0 where
    pub length_is : at ≡ length (spelling (take k cs))
    pub before : take at us ≡ spelling (take k cs)
    pub behind : drop at us ≡ spelling (drop k cs)

  pub cut : (cs us : List ℕ) (at k : ℕ) → spelling cs ≡ us → at ≡ length (spelling (take k cs)) → Cut cs us at k
  cut cs us at k e l =
      let whole : spelling (take k cs) ++ spelling (drop k cs) ≡ us = sym (flat_map-append spell (take k cs) (drop k cs)) ∙ ap spelling (take-append-drop k cs) ∙ e in
      record {
        length_is = l;
        before = ap (take at) (sym whole) ∙ take_at (spelling (take k cs)) (spelling (drop k cs)) at (sym l);
        behind = ap (drop at) (sym whole) ∙ drop_at (spelling (take k cs)) (spelling (drop k cs)) at (sym l);
      }

  get-none : (cs : List ℕ) (k : ℕ) → slice_get cs k ≡ None → take k cs ≡ cs
  get-none [] zero e = refl
  get-none [] (suc k) e = refl
  get-none (d ∷ cs) zero e = absurd (cc)
  get-none (d ∷ cs) (suc k) e = ap (λ x. d ∷ x) (get-none cs k e)

  slice_get_past_is : (cs : List ℕ) (k : ℕ) → slice_get cs k ≡ None → length cs ≤ k
  slice_get_past_is [] k e = omega arith
  slice_get_past_is (d ∷ cs) zero e = absurd (cc)
  slice_get_past_is (d ∷ cs) (suc k) e = omega (arith, slice_get_past_is cs k e)

  pub offset-behind : (a : ℕ) (cs : List ℕ) (k c : ℕ) → slice_get cs k ≡ Some c → get_or (offsets_from a (map width cs)) (suc k) 0 ≡ get_or (offsets_from a (map width cs)) k 0 + width c
  offset-behind a [] k c e = absurd (cc)
  offset-behind a (d ∷ []) zero c e = let same : d ≡ c = cc in ap (λ x. a + width x) same
  offset-behind a (d ∷ f ∷ cs) zero c e = let same : d ≡ c = cc in ap (λ x. a + width x) same
  offset-behind a (d ∷ cs) (suc k) c e = offset-behind (a + width d) cs k c e

  -- An offset is at the end, or the character that the units behind it spell is read to the right.
  pub data ReadsRight (text : Text) (cs us : List ℕ) (at : ℕ) : Type 0 where
    at_end : at ≡ length us → read text rightwards at ≡ None → ReadsRight text cs us at
    before_character : (k c : ℕ) (rest : List ℕ) → slice_get cs k ≡ Some c → drop at us ≡ spell c ++ rest → at + width c ≤ length us
        → read text rightwards at ≡ Some (c, at + width c) → ReadsRight text cs us at

  -- An offset is at the start, or the character that the units before it spell is read to the left.
  pub data ReadsLeft (text : Text) (cs us : List ℕ) (at : ℕ) : Type 0 where
    at_start : at ≡ 0 → read text leftwards at ≡ None → ReadsLeft text cs us at
    behind_character : (k c start : ℕ) (rest : List ℕ) → slice_get cs k ≡ Some c → drop start us ≡ spell c ++ rest → start + width c ≡ at → at ≤ length us
        → read text leftwards at ≡ Some (c, start) → ReadsLeft text cs us at

  module _ (cs us : List ℕ) (unicode : Bool) (fold : ℕ → ℕ) (spelled : spelling cs ≡ us) (positive : (c : ℕ) → 0 < width c) where
    abbrev this : Text
    this = text_of width cs unicode fold

    -- A boundary has a place, and units and characters are cut there.
    pub cut_at : (at : ℕ) → IsBoundary this at → (k : ℕ) × HasPlace this at k × Cut cs us at k
    cut_at at b =
        let p = place_of_boundary this (is_text width positive cs unicode fold) at b in
        (p.0, p.1, cut cs us at p.0 spelled (sym p.1.offset_is ∙ offset-spelling 0 cs p.0 p.1.within ∙ omega arith))

    pub length-units : offset this (length cs) ≡ length us
    length-units = offset-spelling 0 cs (length cs) (omega arith) ∙ (let e : take (length cs) cs ≡ cs = take_all (length cs) cs (omega arith) in omega (arith, ap (λ x. length (spelling x)) e, ap length spelled))

    behind_fits : (at n : ℕ) (c : ℕ) (rest : List ℕ) → at ≤ length us → drop at us ≡ spell c ++ rest → at + width c ≤ length us
    behind_fits at n c rest l e = omega (arith, ap length e, length-drop at us, length-append (spell c) rest, sized c)

    pub reads_right : (at : ℕ) → IsBoundary this at → ReadsRight this cs us at
    reads_right at b = go (cut_at at b)
      where
        go : (k : ℕ) × HasPlace this at k × Cut cs us at k → ReadsRight this cs us at
        go (k, p, here) = by (slice_get cs k) refl
          where
            by : (o : Option ℕ) → slice_get cs k ≡ o → ReadsRight this cs us at
            by None e = at_end
                (here.length_is ∙ ap (λ x. length (spelling x)) (get-none cs k e) ∙ ap length spelled)
                (read-place this rightwards at k p.found ∙ ap (option_map (λ c. (c, offset this (k + 1)))) e)
            by (Some c) e =
                let next : offset this (k + 1) ≡ at + width c = ap (λ n. offset this n) (add-one k) ∙ offset-behind 0 cs k c e ∙ ap (λ n. n + width c) p.offset_is in
                let units_behind : drop at us ≡ spell c ++ spelling (drop (suc k) cs) = here.behind ∙ ap spelling (get-cons cs k c e) in
                let inside : at ≤ length us = omega (arith, here.length_is, ap length here.before, length-take at us) in
                before_character k c (spelling (drop (suc k) cs)) e units_behind (behind_fits at 0 c _ inside units_behind)
                (read-place this rightwards at k p.found ∙ ap (option_map (λ c. (c, offset this (k + 1)))) e ∙ ap (λ n. Some (c, n)) next)

    pub reads_left : (at : ℕ) → IsBoundary this at → ReadsLeft this cs us at
    reads_left at b = go (cut_at at b)
      where
        go : (k : ℕ) × HasPlace this at k × Cut cs us at k → ReadsLeft this cs us at
        go (zero, p, here) = at_start (here.length_is ∙ refl) (read-place this leftwards at zero p.found)
        go (suc j, p, here) = by (slice_get cs j) refl
          where
            by : (o : Option ℕ) → slice_get cs j ≡ o → ReadsLeft this cs us at
            by None e = absurd (omega (arith, p.within, slice_get_past_is cs j e))
            by (Some c) e =
                let start : ℕ = offset this j in
                let spelled_by : start ≡ length (spelling (take j cs)) = offset-spelling 0 cs j (omega (arith, p.within)) ∙ omega arith in
                let there : Cut cs us start j = cut cs us start j spelled spelled_by in
                let same : start + width c ≡ at = sym (offset-behind 0 cs j c e) ∙ p.offset_is in
                let inside : at ≤ length us = omega (arith, here.length_is, ap length here.before, length-take at us) in
                let back : suc j - 1 ≡ j = omega arith in
                behind_character j c start (spelling (drop (suc j) cs)) e (there.behind ∙ ap spelling (get-cons cs j c e)) same inside
                (read-place this leftwards at (suc j) p.found ∙ ap (option_map (λ c. (c, offset this (suc j - 1)))) e ∙ ap (λ n. Some (c, offset this n)) back)
