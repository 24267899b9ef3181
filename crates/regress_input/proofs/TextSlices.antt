-- The code units of a range are those of its characters, and occur again exactly where these do.
use Rattle.std.proofs.Common.{◌≡◌, ℕ, zero, suc, ◌+◌, ◌-◌, ◌<◌, ◌≤◌, List, [], ◌∷◌, ◌++◌, length, get_or, take, drop, map, slice_range, Bool, true, false, ◌&&◌, nat_le, nat_eq, cond, if◌then◌else◌}
use Rattle.std.proofs.Common.{Option, Some, None, unwrap_or, refl, sym, ◌∙◌, ap, ap₂, subst, arith}
use Rattle.std.proofs.Common.{length-append, length-drop, length-take, take-add, drop_at, le-leb, leb-true}
use Rattle.std.proofs.lemmas.Bool.{and_parts, and_from}
use Rattle.std.proofs.lemmas.List.Concat.{flat_map-append}
use lib.Pointwise.{pointwise, bytes_decides}
use Rattle.regex_meaning.specs.Text.{Text, Direction, rightwards, leftwards, offsets_from, moved, characters_ahead, next_characters}
use Rattle.regex_meaning.specs.CodeUnitOffsets.{offset, IsBoundary, place_at}
use Rattle.regex_meaning.proofs.CodeUnitOffsetsLemmas.{place-le, offset-IsBoundary}
use Rattle.regress_input.specs.CharAndByteReadsFromOffset.{place, part, characters_between, past_spelled_if_next, past_numbers_if_next}
use Rattle.regress_input.proofs.BoundaryPositions.{HasPlace}
use Rattle.regress_input.proofs.SpelledTextLemmas.{text_of, is_text, spelling, Cut, cut, cut_at, offset-spelling}

-- ---- Tests and options

pub same_option : (o p : Option ℕ) → ((x : ℕ) → o ≡ Some x → p ≡ Some x) → ((x : ℕ) → p ≡ Some x → o ≡ Some x) → o ≡ p
same_option None None f g = refl
same_option None (Some x) f g = g x refl
same_option (Some x) p f g = sym (f x refl)

-- If a choice yields a value, its test passed and the value is the given one.
pub chosen : (b : Bool) (to x : ℕ) → cond b (Some to) None ≡ Some x → (b ≡ true) × (x ≡ to)
chosen true to x e = (refl, cc)
chosen false to x e = absurd (cc)

pub place_is : (text : Text) (at k : ℕ) → place_at text at ≡ Some k → place text at ≡ k
place_is text at k e = ap (λ o. unwrap_or o 0) e

-- ---- Ranges

slice-length : (xs : List ℕ) (a b : ℕ) → b ≤ length xs → length (slice_range xs a b) ≡ b - a
slice-length xs a b l = omega (arith, length-take (b - a) (drop a xs), length-drop a xs)

-- The first `b` elements are the first `a` elements and then the range from `a` to `b`.
pub take-slice : (xs : List ℕ) (a b : ℕ) → a ≤ b → take b xs ≡ take a xs ++ slice_range xs a b
take-slice xs a b l = let e : b ≡ a + (b - a) = omega arith in ap (λ n. take n xs) e ∙ take-add a (b - a) xs

-- ---- Tests of literal units

choose : (b : Bool) (to : ℕ) → b ≡ true → cond b (Some to) None ≡ Some to
choose b to e = ap (λ (t : Bool). cond t (Some to) None) e

-- The units stand behind the offset `at` and end at `to`.
pub record StandBehind (us ys : List ℕ) (at to : ℕ) : Type 0 where
  pub to_is : to ≡ at + length ys
  pub fits : at + length ys ≤ length us
  pub are : slice_range us at (at + length ys) ≡ ys

-- The units stand before the offset `at` and begin at `to`.
pub record StandBefore (us ys : List ℕ) (at to : ℕ) : Type 0 where
  pub to_is : to ≡ at - length ys
  pub fits : length ys ≤ at
  pub are : slice_range us (at - length ys) at ≡ ys

pub past_bytes-right : (us ys : List ℕ) (at to : ℕ) → past_numbers_if_next us ys rightwards at ≡ Some to → StandBehind us ys at to
past_bytes-right us ys at to e =
    let made = chosen (nat_le (at + length ys) (length us) && pointwise nat_eq (slice_range us at (at + length ys)) ys) (at + length ys) to e in
    let tests = and_parts (nat_le (at + length ys) (length us)) (pointwise nat_eq (slice_range us at (at + length ys)) ys) made.0 in
    record { to_is = made.1; fits = leb-true _ _ tests.0; are = (bytes_decides (slice_range us at (at + length ys)) ys).0 tests.1 }

pub right-past_bytes : (us ys : List ℕ) (at to : ℕ) → StandBehind us ys at to → past_numbers_if_next us ys rightwards at ≡ Some to
right-past_bytes us ys at to h =
    choose (nat_le (at + length ys) (length us) && pointwise nat_eq (slice_range us at (at + length ys)) ys) (at + length ys)
    (and_from _ _ (le-leb _ _ h.fits) ((bytes_decides (slice_range us at (at + length ys)) ys).1 h.are)) ∙ ap Some (sym h.to_is)

pub past_bytes-left : (us ys : List ℕ) (at to : ℕ) → past_numbers_if_next us ys leftwards at ≡ Some to → StandBefore us ys at to
past_bytes-left us ys at to e =
    let made = chosen (nat_le (length ys) at && pointwise nat_eq (slice_range us (at - length ys) at) ys) (at - length ys) to e in
    let tests = and_parts (nat_le (length ys) at) (pointwise nat_eq (slice_range us (at - length ys) at) ys) made.0 in
    record { to_is = made.1; fits = leb-true _ _ tests.0; are = (bytes_decides (slice_range us (at - length ys) at) ys).0 tests.1 }

pub left-past_bytes : (us ys : List ℕ) (at to : ℕ) → StandBefore us ys at to → past_numbers_if_next us ys leftwards at ≡ Some to
left-past_bytes us ys at to h =
    choose (nat_le (length ys) at && pointwise nat_eq (slice_range us (at - length ys) at) ys) (at - length ys)
    (and_from _ _ (le-leb _ _ h.fits) ((bytes_decides (slice_range us (at - length ys) at) ys).1 h.are)) ∙ ap Some (sym h.to_is)

-- ---- Tests of characters from a place

abbrev past_place : (text : Text) → List ℕ → Direction → (k : ℕ) → Option ℕ
past_place text xs d k =
    if nat_le (length xs) (characters_ahead text d k) && pointwise nat_eq xs (next_characters text d (length xs) k)
    then Some (offset text (moved text d (length xs) k)) else None

past_spelled-place : (text : Text) (xs : List ℕ) (d : Direction) (at k : ℕ) → place_at text at ≡ Some k → past_spelled_if_next text nat_eq xs d at ≡ past_place text xs d k
past_spelled-place text xs d at k e = ap (past_place text xs d) (place_is text at k e)

record Spelt (text : Text) (xs : List ℕ) (d : Direction) (k to : ℕ) : Type 0 where
  pub to_is : to ≡ offset text (moved text d (length xs) k)
  pub fits : length xs ≤ characters_ahead text d k
  pub are : xs ≡ next_characters text d (length xs) k

past_place-spelt : (text : Text) (xs : List ℕ) (d : Direction) (k to : ℕ) → past_place text xs d k ≡ Some to → Spelt text xs d k to
past_place-spelt text xs d k to e =
    let made = chosen (nat_le (length xs) (characters_ahead text d k) && pointwise nat_eq xs (next_characters text d (length xs) k)) (offset text (moved text d (length xs) k)) to e in
    let tests = and_parts (nat_le (length xs) (characters_ahead text d k)) (pointwise nat_eq xs (next_characters text d (length xs) k)) made.0 in
    record { to_is = made.1; fits = leb-true _ _ tests.0; are = (bytes_decides xs (next_characters text d (length xs) k)).0 tests.1 }

spelt-past_place : (text : Text) (xs : List ℕ) (d : Direction) (k to : ℕ) → Spelt text xs d k to → past_place text xs d k ≡ Some to
spelt-past_place text xs d k to h =
    choose (nat_le (length xs) (characters_ahead text d k) && pointwise nat_eq xs (next_characters text d (length xs) k)) (offset text (moved text d (length xs) k))
    (and_from _ _ (le-leb _ _ h.fits) ((bytes_decides xs (next_characters text d (length xs) k)).1 h.are)) ∙ ap Some (sym h.to_is)

-- ---- Ranges of units and of characters

module _ (spell : ℕ → List ℕ) (width : ℕ → ℕ) (sized : (c : ℕ) → length (spell c) ≡ width c) where
  abbrev spelt : List ℕ → List ℕ
  spelt = spelling spell width sized

  abbrev Cuts : (cs us : List ℕ) (at k : ℕ) → Type 0
  Cuts = Cut spell width sized

  -- The units between two cuts are those of the characters between them.
  pub record Between (cs us : List ℕ) (a b p q : ℕ) : Type 0 where
    pub length_is : b ≡ a + length (spelt (slice_range cs p q))
    pub are : slice_range us a b ≡ spelt (slice_range cs p q)

  pub text_between : (cs us : List ℕ) (a b p q : ℕ) → p ≤ q → Cuts cs us a p → Cuts cs us b q → Between cs us a b p q
  text_between cs us a b p q l from to =
      let parts : spelt (take q cs) ≡ spelt (take p cs) ++ spelt (slice_range cs p q) = ap spelt (take-slice cs p q l) ∙ flat_map-append spell (take p cs) (slice_range cs p q) in
      let long : b ≡ a + length (spelt (slice_range cs p q)) = omega (arith, to.length_is, from.length_is, ap length parts, length-append (spelt (take p cs)) (spelt (slice_range cs p q))) in
      let le : a ≤ b = omega arith in
      let lead : length (spelt (take p cs)) ≡ a = sym from.length_is in
      let same : spelt (take p cs) ++ slice_range us a b ≡ spelt (take p cs) ++ spelt (slice_range cs p q) =
      ap (λ l. l ++ slice_range us a b) (sym from.before) ∙ sym (take-slice us a b le) ∙ to.before ∙ parts in
      record {
        length_is = long;
        are = sym (drop_at (spelt (take p cs)) (slice_range us a b) a lead) ∙ ap (drop a) same ∙ drop_at (spelt (take p cs)) (spelt (slice_range cs p q)) a lead;
      }

  -- The first offsets of a text are the offsets of its first characters.
  offsets-front : (a : ℕ) (cs : List ℕ) (n : ℕ) → n ≤ length cs → take (suc n) (offsets_from a (map width cs)) ≡ offsets_from a (map width (take n cs))
  offsets-front a [] zero l = refl
  offsets-front a [] (suc n) l = absurd (omega arith)
  offsets-front a (c ∷ cs) zero l = refl
  offsets-front a (c ∷ cs) (suc n) l = ap (λ x. a ∷ x) (offsets-front (a + width c) cs n (omega arith))

  offsets-back : (a : ℕ) (cs : List ℕ) (p : ℕ) → p ≤ length cs → drop p (offsets_from a (map width cs)) ≡ offsets_from (get_or (offsets_from a (map width cs)) p 0) (map width (drop p cs))
  offsets-back a [] zero l = refl
  offsets-back a (c ∷ cs) zero l = refl
  offsets-back a [] (suc p) l = absurd (omega arith)
  offsets-back a (c ∷ cs) (suc p) l = offsets-back (a + width c) cs p (omega arith)

  offsets-less : (a b : ℕ) (ws : List ℕ) → map (λ at. at - a) (offsets_from (a + b) ws) ≡ offsets_from b ws
  offsets-less a b [] = let e : a + b - a ≡ b = omega arith in ap (λ n. n ∷ []) e
  offsets-less a b (w ∷ ws) =
      let e : a + b - a ≡ b = omega arith in
      let f : a + b + w ≡ a + (b + w) = omega arith in
      ap₂ (λ n l. n ∷ l) e (ap (λ n. map (λ at. at - a) (offsets_from n ws)) f ∙ offsets-less a (b + w) ws)

  offsets-range : (cs : List ℕ) (p q : ℕ) → p ≤ q → q ≤ length cs
      → offsets_from 0 (map width (slice_range cs p q)) ≡ map (λ at. at - get_or (offsets_from 0 (map width cs)) p 0) (slice_range (offsets_from 0 (map width cs)) p (q + 1))
  offsets-range cs p q l m =
      let o = get_or (offsets_from 0 (map width cs)) p 0 in
      let n : q + 1 - p ≡ suc (q - p) = omega arith in
      let z : o ≡ o + 0 = omega arith in
      let inside : q - p ≤ length (drop p cs) = omega (arith, length-drop p cs) in
      let slice : slice_range (offsets_from 0 (map width cs)) p (q + 1) ≡ offsets_from o (map width (slice_range cs p q)) =
      ap₂ take n (offsets-back 0 cs p (omega arith)) ∙ offsets-front o (drop p cs) (q - p) inside in
      sym (ap (map (λ at. at - o)) (slice ∙ ap (λ x. offsets_from x (map width (slice_range cs p q))) z) ∙ offsets-less o 0 (map width (slice_range cs p q)))

  module _ (cs us : List ℕ) (unicode : Bool) (fold : ℕ → ℕ) (spelled : spelt cs ≡ us) (positive : (c : ℕ) → 0 < width c) where
    abbrev this : Text
    this = text_of width cs unicode fold

    abbrev here : (at : ℕ) → IsBoundary this at → (k : ℕ) × HasPlace this at k × Cuts cs us at k
    here = cut_at spell width sized cs us unicode fold spelled positive

    in_order : (a b p q : ℕ) → HasPlace this a p → HasPlace this b q → a ≤ b → p ≤ q
    in_order a b p q f g l = place-le this p q (is_text width positive cs unicode fold) f.within g.within (omega (arith, f.offset_is, g.offset_is))

    -- The units of a range are those of its characters.
    pub range-units : (a b : ℕ) → IsBoundary this a → IsBoundary this b → a ≤ b → slice_range us a b ≡ spelt (characters_between this a b)
    range-units a b f g l =
        let (p, at_p, cut_p) = here a f in
        let (q, at_q, cut_q) = here b g in
        (text_between cs us a b p q (in_order a b p q at_p at_q l) cut_p cut_q).are
        ∙ sym (ap₂ (λ i j. spelt (slice_range cs i j)) (place_is this a p at_p.found) (place_is this b q at_q.found))

    -- A part of the text is the text of its characters.
    pub part-is : (a b : ℕ) → IsBoundary this a → IsBoundary this b → a ≤ b → text_of width (characters_between this a b) unicode fold ≡ part this a b
    part-is a b f g l =
        let (p, at_p, cut_p) = here a f in
        let (q, at_q, cut_q) = here b g in
        let le : p ≤ q = in_order a b p q at_p at_q l in
        let ep : place this a ≡ p = place_is this a p at_p.found in
        let eq : place this b ≡ q = place_is this b q at_q.found in
        let list : offsets_from 0 (map width (characters_between this a b)) ≡ map (λ at. at - a) (slice_range this.offsets (place this a) (place this b + 1)) =
        ap₂ (λ i j. offsets_from 0 (map width (slice_range cs i j))) ep eq
        ∙ offsets-range cs p q le at_q.within
        ∙ ap (λ (n : ℕ). map (λ at. at - n) (slice_range this.offsets p (q + 1))) at_p.offset_is
        ∙ sym (ap₂ (λ i j. map (λ at. at - a) (slice_range this.offsets i (j + 1))) ep eq) in
        ap (λ (os : List ℕ). record { characters = characters_between this a b; offsets = os; unicode = unicode; fold = fold }) list

    cut_of_place : (m : ℕ) → m ≤ length cs → Cuts cs us (offset this m) m
    cut_of_place m l = cut spell width sized cs us (offset this m) m spelled (offset-spelling spell width sized 0 cs m l ∙ omega arith)

    cut_inside : (at m : ℕ) → Cuts cs us at m → at ≤ length us
    cut_inside at m c = omega (arith, c.length_is, ap length c.before, length-take at us)

    -- Ranges of characters with the same units are equal.
    abbrev pub IsInjective : Type 0
    IsInjective = (p q i j : ℕ) → spelt (slice_range cs p q) ≡ spelt (slice_range cs i j) → slice_range cs p q ≡ slice_range cs i j

    -- A range of characters that has the units of another range is equal to it.
    alike : IsInjective → (a b i j p q : ℕ) (ys : List ℕ) → Between cs us a b i j → slice_range us a b ≡ ys → ys ≡ spelt (slice_range cs p q)
        → slice_range cs i j ≡ slice_range cs p q
    alike inject a b i j p q ys btw units same = inject i j p q (sym btw.are ∙ units ∙ same)

    -- Between places of boundaries, the units of a range stand exactly where its characters do.
    right-spelt : IsInjective → (at k p q to : ℕ) (ys : List ℕ) → HasPlace this at k → Cuts cs us at k → ys ≡ spelt (slice_range cs p q)
        → StandBehind us ys at to → IsBoundary this to → Spelt this (slice_range cs p q) rightwards k to
    right-spelt inject at k p q to ys at_k cut_k same h b =
        let (m, at_m, cut_m) = here to b in
        let order : k ≤ m = in_order at to k m at_k at_m (omega (arith, h.to_is)) in
        let equal : slice_range cs k m ≡ slice_range cs p q = alike inject at to k m p q ys (text_between cs us at to k m order cut_k cut_m) (ap (slice_range us at) h.to_is ∙ h.are) same in
        let long : length (slice_range cs p q) ≡ m - k = sym (ap length equal) ∙ slice-length cs k m at_m.within in
        let end : k + length (slice_range cs p q) ≡ m = omega arith in
        record {
          to_is = sym (ap (offset this) end ∙ at_m.offset_is);
          fits = omega (arith, at_m.within);
          are = sym equal ∙ ap (slice_range cs k) (sym end);
        }

    spelt-right : (at k p q to : ℕ) (ys : List ℕ) → HasPlace this at k → Cuts cs us at k → ys ≡ spelt (slice_range cs p q)
        → Spelt this (slice_range cs p q) rightwards k to → StandBehind us ys at to
    spelt-right at k p q to ys at_k cut_k same h =
        let m : ℕ = k + length (slice_range cs p q) in
        let within : m ≤ length cs = omega (arith, h.fits, at_k.within) in
        let order : k ≤ m = omega arith in
        let cut_m : Cuts cs us (offset this m) m = cut_of_place m within in
        let btw : Between cs us at (offset this m) k m = text_between cs us at (offset this m) k m order cut_k cut_m in
        let units : spelt (slice_range cs k m) ≡ ys = ap spelt (sym h.are) ∙ sym same in
        let end : offset this m ≡ at + length ys = btw.length_is ∙ ap (λ l. at + length l) units in
        record { to_is = h.to_is ∙ end; fits = omega (arith, end, cut_inside (offset this m) m cut_m); are = ap (slice_range us at) (sym end) ∙ btw.are ∙ units }

    left-spelt : IsInjective → (at k p q to : ℕ) (ys : List ℕ) → HasPlace this at k → Cuts cs us at k → ys ≡ spelt (slice_range cs p q)
        → StandBefore us ys at to → IsBoundary this to → Spelt this (slice_range cs p q) leftwards k to
    left-spelt inject at k p q to ys at_k cut_k same h b =
        let (m, at_m, cut_m) = here to b in
        let order : m ≤ k = in_order to at m k at_m at_k (omega (arith, h.to_is)) in
        let equal : slice_range cs m k ≡ slice_range cs p q = alike inject to at m k p q ys (text_between cs us to at m k order cut_m cut_k) (ap (λ n. slice_range us n at) h.to_is ∙ h.are) same in
        let long : length (slice_range cs p q) ≡ k - m = sym (ap length equal) ∙ slice-length cs m k at_k.within in
        let start : k - length (slice_range cs p q) ≡ m = omega arith in
        record {
          to_is = sym (ap (offset this) start ∙ at_m.offset_is);
          fits = omega arith;
          are = sym equal ∙ ap (λ n. slice_range cs n k) (sym start);
        }

    spelt-left : (at k p q to : ℕ) (ys : List ℕ) → HasPlace this at k → Cuts cs us at k → ys ≡ spelt (slice_range cs p q)
        → Spelt this (slice_range cs p q) leftwards k to → StandBefore us ys at to
    spelt-left at k p q to ys at_k cut_k same h =
        let m : ℕ = k - length (slice_range cs p q) in
        let within : m ≤ length cs = omega (arith, at_k.within) in
        let order : m ≤ k = omega arith in
        let cut_m : Cuts cs us (offset this m) m = cut_of_place m within in
        let btw : Between cs us (offset this m) at m k = text_between cs us (offset this m) at m k order cut_m cut_k in
        let units : spelt (slice_range cs m k) ≡ ys = ap spelt (sym h.are) ∙ sym same in
        let long : at ≡ offset this m + length ys = btw.length_is ∙ ap (λ l. offset this m + length l) units in
        let start : offset this m ≡ at - length ys = omega arith in
        record { to_is = h.to_is ∙ start; fits = omega arith; are = ap (λ n. slice_range us n at) (sym start) ∙ btw.are ∙ units }

    -- Characters of the text that stand beside a boundary end at a boundary.
    ends-right : (at k to : ℕ) (xs : List ℕ) → HasPlace this at k → Spelt this xs rightwards k to → IsBoundary this to
    ends-right at k to xs p h =
        subst (IsBoundary this) (sym h.to_is) (offset-IsBoundary this (k + length xs) (is_text width positive cs unicode fold) (omega (arith, h.fits, p.within)))

    ends-left : (at k to : ℕ) (xs : List ℕ) → HasPlace this at k → Spelt this xs leftwards k to → IsBoundary this to
    ends-left at k to xs p h =
        subst (IsBoundary this) (sym h.to_is) (offset-IsBoundary this (k - length xs) (is_text width positive cs unicode fold) (omega (arith, p.within)))

    -- `Stand` tells how units stand on one side of an offset, up to another offset. What is found
    -- exactly where the units of a range stand beside a boundary, up to another one, is found
    -- exactly where its characters stand.
    found-beside : (d : Direction) (Stand : (ys : List ℕ) (at to : ℕ) → Type 0)
        → ((at k p q to : ℕ) (ys : List ℕ) → HasPlace this at k → Cuts cs us at k → ys ≡ spelt (slice_range cs p q) → Stand ys at to → IsBoundary this to → Spelt this (slice_range cs p q) d k to)
        → ((at k p q to : ℕ) (ys : List ℕ) → HasPlace this at k → Cuts cs us at k → ys ≡ spelt (slice_range cs p q) → Spelt this (slice_range cs p q) d k to → Stand ys at to)
        → ((at k to : ℕ) (xs : List ℕ) → HasPlace this at k → Spelt this xs d k to → IsBoundary this to)
        → (at a b : ℕ) → IsBoundary this at → IsBoundary this a → IsBoundary this b → a ≤ b → (found : Option ℕ)
        → ((to : ℕ) → found ≡ Some to → Stand (slice_range us a b) at to × IsBoundary this to)
        → ((to : ℕ) → Stand (slice_range us a b) at to → IsBoundary this to → found ≡ Some to)
        → found ≡ past_spelled_if_next this nat_eq (characters_between this a b) d at
    found-beside d Stand spelt_of stand_of ends at a b at_b from to l found there back =
        let (k, at_k, cut_k) = here at at_b in
        let (p, at_p, cut_p) = here a from in
        let (q, at_q, cut_q) = here b to in
        let units : slice_range us a b ≡ spelt (slice_range cs p q) = (text_between cs us a b p q (in_order a b p q at_p at_q l) cut_p cut_q).are in
        let same : characters_between this a b ≡ slice_range cs p q = ap₂ (slice_range cs) (place_is this a p at_p.found) (place_is this b q at_q.found) in
        same_option found (past_place this (slice_range cs p q) d k)
        (λ x e. let h = there x e in
        spelt-past_place this (slice_range cs p q) d k x (spelt_of at k p q x (slice_range us a b) at_k cut_k units h.0 h.1))
        (λ x e. let h = past_place-spelt this (slice_range cs p q) d k x e in
        back x (stand_of at k p q x (slice_range us a b) at_k cut_k units h) (ends at k x (slice_range cs p q) at_k h))
        ∙ ap (λ xs. past_place this xs d k) (sym same)
        ∙ sym (past_spelled-place this (characters_between this a b) d at k at_k.found)

    pub found-right : IsInjective → (at a b : ℕ) → IsBoundary this at → IsBoundary this a → IsBoundary this b → a ≤ b → (found : Option ℕ)
        → ((to : ℕ) → found ≡ Some to → StandBehind us (slice_range us a b) at to × IsBoundary this to)
        → ((to : ℕ) → StandBehind us (slice_range us a b) at to → IsBoundary this to → found ≡ Some to)
        → found ≡ past_spelled_if_next this nat_eq (characters_between this a b) rightwards at
    found-right inject = found-beside rightwards (StandBehind us) (right-spelt inject) spelt-right ends-right

    pub found-left : IsInjective → (at a b : ℕ) → IsBoundary this at → IsBoundary this a → IsBoundary this b → a ≤ b → (found : Option ℕ)
        → ((to : ℕ) → found ≡ Some to → StandBefore us (slice_range us a b) at to × IsBoundary this to)
        → ((to : ℕ) → StandBefore us (slice_range us a b) at to → IsBoundary this to → found ≡ Some to)
        → found ≡ past_spelled_if_next this nat_eq (characters_between this a b) leftwards at
    found-left inject = found-beside leftwards (StandBefore us) (left-spelt inject) spelt-left ends-left

    -- The units of a range are found beside a boundary exactly where its characters are, if the
    -- units always end at a boundary.
    abbrev pub IsLiteral : (d : Direction) (Stand : (ys : List ℕ) (at to : ℕ) → Type 0) → Type 0
    IsLiteral d Stand =
        (at a b : ℕ) → IsBoundary this at → IsBoundary this a → IsBoundary this b → a ≤ b
        → ((to : ℕ) → Stand (slice_range us a b) at to → IsBoundary this to)
        → past_numbers_if_next us (slice_range us a b) d at ≡ past_spelled_if_next this nat_eq (characters_between this a b) d at

    pub literal-right : IsInjective → IsLiteral rightwards (StandBehind us)
    literal-right inject at a b at_b from to l ends =
        found-right inject at a b at_b from to l (past_numbers_if_next us (slice_range us a b) rightwards at)
        (λ x e. let h = past_bytes-right us (slice_range us a b) at x e in (h, ends x h))
        (λ x h e. right-past_bytes us (slice_range us a b) at x h)

    pub literal-left : IsInjective → IsLiteral leftwards (StandBefore us)
    literal-left inject at a b at_b from to l ends =
        found-left inject at a b at_b from to l (past_numbers_if_next us (slice_range us a b) leftwards at)
        (λ x e. let h = past_bytes-left us (slice_range us a b) at x e in (h, ends x h))
        (λ x h e. left-past_bytes us (slice_range us a b) at x h)
