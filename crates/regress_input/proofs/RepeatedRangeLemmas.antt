-- Comparing characters one by one decides whether a range of the text occurs again at an offset.
use Rattle.std.proofs.Common.{◌≡◌, ℕ, zero, suc, ◌+◌, ◌-◌, ◌<◌, ◌≤◌, ◌≢◌, ◌⊎◌, inl, inr, List, [], ◌∷◌, ◌&&◌, length, take, drop, slice_get, slice_range, Bool, true, false, cond, if◌then◌else◌}
use Rattle.std.proofs.Common.{nat_le, Option, Some, None, option_map, refl, sym, ◌∙◌, ap, ap₂}
use Rattle.std.proofs.Common.{subst, arith, le-leb, leb-true, add-one, length-take, length-drop}
use Rattle.std.proofs.Math.Bool.{and-false}
use Rattle.std.proofs.lemmas.Bool.{lt-leb}
use lib.Pointwise.{pointwise}
use Rattle.std.proofs.lemmas.Option.{slice_get_within}
use Rattle.regex_meaning.specs.Text.{Text, Direction, rightwards, leftwards, next_character, moved, characters_ahead, next_characters}
use Rattle.regex_meaning.specs.CodeUnitOffsets.{HasRisingPlaceOffsets, IsBoundary, offset, read}
use Rattle.regex_meaning.proofs.CodeUnitOffsetsLemmas.{offset-injective, offset-less, offset-le, place-le}
use Rattle.regex_meaning.proofs.BoolLemmas.{le-same}
use Rattle.regress_input.specs.CharAndByteReadsFromOffset.{direction_of_forward_flag, place, characters_between, past_spelled_if_next}
use Rattle.regress_input.proofs.BoundaryPositions.{HasPlace, place_of_boundary, pair, step_right, step_left, read-place}
use Rattle.regress_input.proofs.TextSlices.{place_is}
use Rattle.regress_input.proofs.ListRangeLemmas.{slice-first, slice-last, pointwise-snoc}

-- ---- Comparison of characters one by one

module _ (text : Text) (same : ℕ → ℕ → Bool) where
  abbrev cs : List ℕ
  cs = text.characters

  -- If both characters exist and are the same, the result is `on`, and otherwise nothing.
  abbrev pub both : Option ℕ → Option ℕ → Option ℕ → Option ℕ
  both None d on = None
  both (Some c) None on = None
  both (Some c) (Some d) on = if same c d then on else None

  -- This is where `n` characters from `k` lead if one by one they are the same as those from `a`.
  abbrev pub run : Direction → (n a k : ℕ) → Option ℕ
  run d zero a k = Some k
  run d (suc n) a k = both (next_character text d a) (next_character text d k) (run d n (moved text d 1 a) (moved text d 1 k))

  -- This is the same comparison of all `n` characters at once.
  abbrev at_once : Direction → (n a k : ℕ) → Option ℕ
  at_once d n a k =
      if nat_le n (characters_ahead text d k) && pointwise same (next_characters text d n a) (next_characters text d n k)
      then Some (moved text d n k) else None

  nothing : (m : ℕ) → slice_range cs m (m + 0) ≡ []
  nothing m = let e : m + 0 - m ≡ 0 = omega arith in ap (λ n. take n (drop m cs)) e

  fails : (t : Bool) (x : ℕ) → t ≡ false → cond t (Some x) None ≡ None
  fails t x e = ap (λ (b : Bool). cond b (Some x) None) e

  step-right : (n a k : ℕ) → a + suc n ≤ length cs → run rightwards n (suc a) (suc k) ≡ at_once rightwards n (suc a) (suc k) → run rightwards (suc n) a k ≡ at_once rightwards (suc n) a k
  step-right n a k l later = by (slice_get cs a) refl (slice_get cs k) refl
    where
      on : run rightwards n (a + 1) (k + 1) ≡ at_once rightwards n (suc a) (suc k)
      on = ap₂ (run rightwards n) (add-one a) (add-one k) ∙ later

      here : (c d : ℕ) → slice_get cs a ≡ Some c → slice_get cs k ≡ Some d → (t : Bool) → same c d ≡ t
          → (if t then run rightwards n (a + 1) (k + 1) else None) ≡ at_once rightwards (suc n) a k
      here c d e f t s =
          let k_in : k < length cs = slice_get_within cs k d f in
          let lists : pointwise same (slice_range cs a (a + suc n)) (slice_range cs k (k + suc n)) ≡ (same c d && pointwise same (slice_range cs (suc a) (suc a + n)) (slice_range cs (suc k) (suc k + n))) =
          ap₂ (pointwise same) (slice-first cs a n c e) (slice-first cs k n d f) in
          let left : nat_le (suc n) (length cs - k) ≡ nat_le n (length cs - suc k) = le-same (suc n) (length cs - k) n (length cs - suc k) (λ x. omega arith) (λ x. omega arith) in
          let end : k + suc n ≡ suc k + n = omega arith in
          go t s (ap₂ (λ x y. x && y) left lists) end
        where
          go : (t : Bool) → same c d ≡ t
              → (nat_le (suc n) (length cs - k) && pointwise same (slice_range cs a (a + suc n)) (slice_range cs k (k + suc n)))
              ≡ (nat_le n (length cs - suc k) && (same c d && pointwise same (slice_range cs (suc a) (suc a + n)) (slice_range cs (suc k) (suc k + n))))
              → k + suc n ≡ suc k + n
              → (if t then run rightwards n (a + 1) (k + 1) else None) ≡ at_once rightwards (suc n) a k
          go true s tests end =
              on ∙ sym (ap₂ (λ (b : Bool) x. cond b (Some x) None)
              (tests ∙ ap (λ (b : Bool). nat_le n (length cs - suc k) && (b && pointwise same (slice_range cs (suc a) (suc a + n)) (slice_range cs (suc k) (suc k + n)))) s) end)
          go false s tests end =
              sym (fails (nat_le (suc n) (length cs - k) && pointwise same (slice_range cs a (a + suc n)) (slice_range cs k (k + suc n))) (k + suc n)
              (tests ∙ ap (λ (b : Bool). nat_le n (length cs - suc k) && (b && pointwise same (slice_range cs (suc a) (suc a + n)) (slice_range cs (suc k) (suc k + n)))) s ∙ and-false (nat_le n (length cs - suc k))))

      absent : (xs : List ℕ) (i : ℕ) → slice_get xs i ≡ None → length xs ≤ i
      absent [] i e = omega arith
      absent (x ∷ xs) zero e = absurd (cc)
      absent (x ∷ xs) (suc i) e = omega (arith, absent xs i e)

      by : (o : Option ℕ) → slice_get cs a ≡ o → (p : Option ℕ) → slice_get cs k ≡ p
          → both o p (run rightwards n (a + 1) (k + 1)) ≡ at_once rightwards (suc n) a k
      by None e p f = absurd (omega (arith, absent cs a e))
      by (Some c) e None f =
          let past : length cs ≤ k = absent cs k f in
          sym (fails (nat_le (suc n) (length cs - k) && pointwise same (slice_range cs a (a + suc n)) (slice_range cs k (k + suc n))) (k + suc n)
          (ap (λ (b : Bool). b && pointwise same (slice_range cs a (a + suc n)) (slice_range cs k (k + suc n))) (lt-leb (suc n) (length cs - k) (omega arith))))
      by (Some c) e (Some d) f = here c d e f (same c d) refl

  run-right : (n a k : ℕ) → a + n ≤ length cs → run rightwards n a k ≡ at_once rightwards n a k
  run-right zero a k l =
      let e : k ≡ k + 0 = omega arith in
      ap Some e ∙ sym (ap₂ (λ xs ys. if nat_le 0 (length cs - k) && pointwise same xs ys then Some (k + 0) else None) (nothing a) (nothing k)
      ∙ ap (λ (b : Bool). cond (b && true) (Some (k + 0)) None) (le-leb 0 (length cs - k) (omega arith)))
  run-right (suc n) a k l = step-right n a k l (run-right n (suc a) (suc k) (omega arith))

  step-left : (n a k : ℕ) → suc n ≤ suc a → suc a ≤ length cs → suc k ≤ length cs → run leftwards n a k ≡ at_once leftwards n a k → run leftwards (suc n) (suc a) (suc k) ≡ at_once leftwards (suc n) (suc a) (suc k)
  step-left n a k l m o later = by (slice_get cs a) refl (slice_get cs k) refl
    where
      absent : (xs : List ℕ) (i : ℕ) → slice_get xs i ≡ None → length xs ≤ i
      absent [] i e = omega arith
      absent (x ∷ xs) zero e = absurd (cc)
      absent (x ∷ xs) (suc i) e = omega (arith, absent xs i e)

      on : run leftwards n (suc a - 1) (suc k - 1) ≡ at_once leftwards n a k
      on =
          let e : suc a - 1 ≡ a = omega arith in
          let f : suc k - 1 ≡ k = omega arith in
          ap₂ (run leftwards n) e f ∙ later

      long : (xs : List ℕ) (s e : ℕ) → e ≤ length xs → length (slice_range xs s e) ≡ e - s
      long xs s e l = omega (arith, length-take (e - s) (drop s xs), length-drop s xs)

      tests : (c d : ℕ) → slice_get cs a ≡ Some c → slice_get cs k ≡ Some d
          → (nat_le (suc n) (suc k) && pointwise same (slice_range cs (suc a - suc n) (suc a)) (slice_range cs (suc k - suc n) (suc k)))
          ≡ (nat_le n k && (same c d && pointwise same (slice_range cs (a - n) a) (slice_range cs (k - n) k)))
      tests c d e f = split (nat_le n k) refl
        where
          less : nat_le (suc n) (suc k) ≡ nat_le n k
          less = le-same (suc n) (suc k) n k (λ x. omega arith) (λ x. omega arith)

          lists : n ≤ k → pointwise same (slice_range cs (suc a - suc n) (suc a)) (slice_range cs (suc k - suc n) (suc k)) ≡ (same c d && pointwise same (slice_range cs (a - n) a) (slice_range cs (k - n) k))
          lists x =
              let i : suc a - suc n ≡ a - n = omega arith in
              let j : suc k - suc n ≡ k - n = omega arith in
              let wide : length (slice_range cs (a - n) a) ≡ length (slice_range cs (k - n) k) = omega (arith, long cs (a - n) a (omega arith), long cs (k - n) k (omega arith)) in
              ap₂ (pointwise same) (ap (λ s. slice_range cs s (suc a)) i ∙ slice-last cs (a - n) a c (omega arith) e) (ap (λ s. slice_range cs s (suc k)) j ∙ slice-last cs (k - n) k d (omega arith) f)
              ∙ pointwise-snoc same (slice_range cs (a - n) a) (slice_range cs (k - n) k) c d wide

          split : (b : Bool) → nat_le n k ≡ b
              → (nat_le (suc n) (suc k) && pointwise same (slice_range cs (suc a - suc n) (suc a)) (slice_range cs (suc k - suc n) (suc k)))
              ≡ (nat_le n k && (same c d && pointwise same (slice_range cs (a - n) a) (slice_range cs (k - n) k)))
          split true e' = ap₂ (λ x y. x && y) less (lists (leb-true n k e'))
          split false e' =
              ap (λ (b : Bool). b && pointwise same (slice_range cs (suc a - suc n) (suc a)) (slice_range cs (suc k - suc n) (suc k))) (less ∙ e')
              ∙ sym (ap (λ (b : Bool). b && (same c d && pointwise same (slice_range cs (a - n) a) (slice_range cs (k - n) k))) e')

      go : (c d : ℕ) → slice_get cs a ≡ Some c → slice_get cs k ≡ Some d → (t : Bool) → same c d ≡ t
          → (if t then run leftwards n (suc a - 1) (suc k - 1) else None) ≡ at_once leftwards (suc n) (suc a) (suc k)
      go c d e f true s =
          let end : suc k - suc n ≡ k - n = omega arith in
          on ∙ sym (ap₂ (λ (b : Bool) x. cond b (Some x) None)
          (tests c d e f ∙ ap (λ (b : Bool). nat_le n k && (b && pointwise same (slice_range cs (a - n) a) (slice_range cs (k - n) k))) s) end)
      go c d e f false s =
          sym (fails (nat_le (suc n) (suc k) && pointwise same (slice_range cs (suc a - suc n) (suc a)) (slice_range cs (suc k - suc n) (suc k))) (suc k - suc n)
          (tests c d e f ∙ ap (λ (b : Bool). nat_le n k && (b && pointwise same (slice_range cs (a - n) a) (slice_range cs (k - n) k))) s ∙ and-false (nat_le n k)))

      by : (o : Option ℕ) → slice_get cs a ≡ o → (p : Option ℕ) → slice_get cs k ≡ p
          → both o p (run leftwards n (suc a - 1) (suc k - 1)) ≡ at_once leftwards (suc n) (suc a) (suc k)
      by None e p f = absurd (omega (arith, absent cs a e))
      by (Some c) e None f = absurd (omega (arith, absent cs k f))
      by (Some c) e (Some d) f = go c d e f (same c d) refl

  run-left : (n a k : ℕ) → n ≤ a → a ≤ length cs → k ≤ length cs → run leftwards n a k ≡ at_once leftwards n a k
  run-left zero a k l m o =
      let e : k ≡ k - 0 = omega arith in
      let f : a - (a - 0) ≡ 0 = omega arith in
      let g : k - (k - 0) ≡ 0 = omega arith in
      ap Some e ∙ sym (ap₂ (λ i j. if nat_le 0 k && pointwise same (take i (drop (a - 0) cs)) (take j (drop (k - 0) cs)) then Some (k - 0) else None) f g
      ∙ ap (λ (b : Bool). cond (b && true) (Some (k - 0)) None) (le-leb 0 k (omega arith)))
  run-left (suc n) zero k l m o = absurd (omega arith)
  run-left (suc n) (suc a) zero l m o = by (slice_get cs a)
    where
      test : (nat_le (suc n) 0 && pointwise same (slice_range cs (suc a - suc n) (suc a)) (slice_range cs (0 - suc n) 0)) ≡ false
      test = ap (λ (b : Bool). b && pointwise same (slice_range cs (suc a - suc n) (suc a)) (slice_range cs (0 - suc n) 0)) (lt-leb (suc n) 0 (omega arith))

      by : (o : Option ℕ) → both o None (run leftwards n (suc a - 1) (0 - 1)) ≡ at_once leftwards (suc n) (suc a) zero
      by None = sym (fails _ (0 - suc n) test)
      by (Some c) = sym (fails _ (0 - suc n) test)
  run-left (suc n) (suc a) (suc k) l m o = step-left n a k l m o (run-left n a k (omega arith) (omega arith) (omega arith))

  -- ---- Comparison by a loop

  -- `count` more characters from `at` to `stop` are to be compared with those from `pos`, and this
  -- leads to `found`.
  pub record Comparing (d : Direction) (at stop pos : ℕ) (found : Option ℕ) : Type 0 where
    pub count : ℕ
    pub from : ℕ
    pub at_from : HasPlace text at from
    pub there : ℕ
    pub pos_there : HasPlace text pos there
    pub stops : HasPlace text stop (moved text d count from)
    pub fits : count ≤ characters_ahead text d from
    pub found_is : found ≡ option_map (λ p. offset text p) (run d count from there)

  module _ (is_text : HasRisingPlaceOffsets text) where
    offset_if_boundary : (at : ℕ) → IsBoundary text at → HasPlace text at (place text at)
    offset_if_boundary at b =
        let p = place_of_boundary text is_text at b in
        subst (HasPlace text at) (sym (place_is text at p.0 p.1.found)) p.1

    option_offset : (t : Bool) (p : ℕ) → option_map (λ p. offset text p) (cond t (Some p) None) ≡ cond t (Some (offset text p)) None
    option_offset true p = refl
    option_offset false p = refl

    places_in_order : (a b p q : ℕ) → HasPlace text a p → HasPlace text b q → a ≤ b → p ≤ q
    places_in_order a b p q f g l = place-le text p q is_text f.within g.within (omega (arith, f.offset_is, g.offset_is))

    -- The range that is compared is given by these places.
    module _ (at from to : ℕ) (b : IsBoundary text at) (f : IsBoundary text from) (t : IsBoundary text to) (l : from ≤ to) where
      abbrev first_place : ℕ
      first_place = place text from

      abbrev end_place : ℕ
      end_place = place text to

      abbrev here_place : ℕ
      here_place = place text at

      stop_place : HasPlace text to end_place
      stop_place = offset_if_boundary to t

      in_order : first_place ≤ end_place
      in_order = places_in_order from to first_place end_place (offset_if_boundary from f) stop_place l

      long : length (slice_range cs first_place end_place) ≡ end_place - first_place
      long = omega (arith, length-take (end_place - first_place) (drop first_place cs), length-drop first_place cs, stop_place.within)

      pub start_right : Comparing rightwards from to at (past_spelled_if_next text same (characters_between text from to) rightwards at)
      start_right =
          let p : ℕ = first_place in
          let q : ℕ = end_place in
          let k : ℕ = here_place in
          let end : q ≡ p + (q - p) = omega (arith, in_order) in
          let list : slice_range cs p q ≡ slice_range cs p (p + (q - p)) = ap (slice_range cs p) end in
          record {
            count = q - p;
            from = p;
            at_from = offset_if_boundary from f;
            there = k;
            pos_there = offset_if_boundary at b;
            stops = subst (HasPlace text to) end stop_place;
            fits = omega (arith, in_order, stop_place.within);
            found_is =
                ap₂ (λ (n : ℕ) (xs : List ℕ). if nat_le n (length cs - k) && pointwise same xs (slice_range cs k (k + n)) then Some (offset text (k + n)) else None) long list
                ∙ sym (option_offset (nat_le (q - p) (length cs - k) && pointwise same (slice_range cs p (p + (q - p))) (slice_range cs k (k + (q - p)))) (k + (q - p)))
                ∙ ap (option_map (λ p. offset text p)) (sym (run-right (q - p) p k (omega (arith, in_order, stop_place.within))));
          }

      pub start_left : Comparing leftwards to from at (past_spelled_if_next text same (characters_between text from to) leftwards at)
      start_left =
          let p : ℕ = first_place in
          let q : ℕ = end_place in
          let k : ℕ = here_place in
          let begin : p ≡ q - (q - p) = omega (arith, in_order) in
          let list : slice_range cs p q ≡ slice_range cs (q - (q - p)) q = ap (λ n. slice_range cs n q) begin in
          record {
            count = q - p;
            from = q;
            at_from = stop_place;
            there = k;
            pos_there = offset_if_boundary at b;
            stops = subst (HasPlace text from) begin (offset_if_boundary from f);
            fits = omega arith;
            found_is =
                ap₂ (λ (n : ℕ) (xs : List ℕ). if nat_le n k && pointwise same xs (slice_range cs (k - n) k) then Some (offset text (k - n)) else None) long list
                ∙ sym (option_offset (nat_le (q - p) k && pointwise same (slice_range cs (q - (q - p)) q) (slice_range cs (k - (q - p)) k)) (k - (q - p)))
                ∙ ap (option_map (λ p. offset text p)) (sym (run-left (q - p) q k (omega arith) (stop_place.within) ((offset_if_boundary at b).within)));
          }

    same_place : (a b p q : ℕ) → HasPlace text a p → HasPlace text b q → a ≡ b → p ≡ q
    same_place a b p q f g e = offset-injective text p q is_text f.within g.within (f.offset_is ∙ e ∙ sym g.offset_is)

    none_left : (d : Direction) (n p : ℕ) → n ≤ characters_ahead text d p → p ≡ moved text d n p → n ≡ 0
    none_left rightwards n p l e = omega arith
    none_left leftwards n p l e = omega arith

    -- At the stop, the range is found, and it ends at `pos`.
    pub stopped : (d : Direction) (at stop pos : ℕ) (found : Option ℕ) → Comparing d at stop pos found → at ≡ stop → found ≡ Some pos
    stopped d at stop pos found c e =
        let none : c.count ≡ 0 = none_left d c.count c.from c.fits (same_place at stop c.from (moved text d c.count c.from) c.at_from c.stops e) in
        c.found_is ∙ ap (λ n. option_map (λ p. offset text p) (run d n c.from c.there)) none ∙ ap Some c.pos_there.offset_is

    -- A character that is read at an offset is the next one of its place and leads one place on.
    read_next : (d : Direction) (at c to p : ℕ) → HasPlace text at p → read text d at ≡ Some (pair c to) → (next_character text d p ≡ Some c) × HasPlace text to (moved text d 1 p)
    read_next rightwards at c to p h r =
        let s = step_right text is_text at c to r in
        let e : s.place ≡ p = same_place at at s.place p s.from h refl in
        let f : suc s.place ≡ p + 1 = omega arith in
        (ap (slice_get cs) (sym e) ∙ s.character, subst (HasPlace text to) f s.upto)
    read_next leftwards at c to zero h r =
        let s = step_left text is_text at c to r in
        let e : suc s.place ≡ 0 = same_place at at (suc s.place) 0 s.from h refl in absurd (omega arith)
    read_next leftwards at c to (suc p) h r =
        let s = step_left text is_text at c to r in
        let e : suc s.place ≡ suc p = same_place at at (suc s.place) (suc p) s.from h refl in
        let f : s.place ≡ p = omega arith in
        let g : s.place ≡ suc p - 1 = omega arith in
        (ap (slice_get cs) (sym f) ∙ s.character, subst (HasPlace text to) g s.upto)

    no_next : (d : Direction) (at p : ℕ) → HasPlace text at p → read text d at ≡ None → next_character text d p ≡ None
    no_next d at p h r = by (next_character text d p) refl
      where
        by : (o : Option ℕ) → next_character text d p ≡ o → next_character text d p ≡ None
        by None e = e
        by (Some c) e = absurd (no (sym r ∙ read-place text d at p h.found ∙ ap (option_map (λ c. pair c (offset text (moved text d 1 p)))) e))
          where
            no : None ≡ Some (pair c (offset text (moved text d 1 p))) → ⊥
            no z = cc

    run-none : (d : Direction) (n a k : ℕ) → next_character text d a ≡ None → run d (suc n) a k ≡ None
    run-none d n a k e = ap (λ o. both o (next_character text d k) (run d n (moved text d 1 a) (moved text d 1 k))) e

    run-none_there : (d : Direction) (n a k : ℕ) → next_character text d k ≡ None → run d (suc n) a k ≡ None
    run-none_there d n a k e = ap (λ o. both (next_character text d a) o (run d n (moved text d 1 a) (moved text d 1 k))) e ∙ nothing_there (next_character text d a)
      where
        nothing_there : (o : Option ℕ) → both o None (run d n (moved text d 1 a) (moved text d 1 k)) ≡ None
        nothing_there None = refl
        nothing_there (Some c) = refl

    run-some : (d : Direction) (n a k c e : ℕ) → next_character text d a ≡ Some c → next_character text d k ≡ Some e
        → run d (suc n) a k ≡ (if same c e then run d n (moved text d 1 a) (moved text d 1 k) else None)
    run-some d n a k c e f g = ap₂ (λ o p. both o p (run d n (moved text d 1 a) (moved text d 1 k))) f g

    -- Before the stop, at least one more character is to be compared.
    more : (d : Direction) (at stop pos : ℕ) (found : Option ℕ) (c : Comparing d at stop pos found) → at ≢ stop → (n : ℕ) × (c.count ≡ suc n)
    more d at stop pos found c ne = by c.count refl
      where
        moved_none : (d : Direction) (p : ℕ) → moved text d 0 p ≡ p
        moved_none rightwards p = omega arith
        moved_none leftwards p = omega arith

        by : (n : ℕ) → c.count ≡ n → (n : ℕ) × (c.count ≡ suc n)
        by zero e = absurd (ne (sym c.at_from.offset_is ∙ ap (offset text) (sym (ap (λ n. moved text d n c.from) e ∙ moved_none d c.from)) ∙ c.stops.offset_is))
        by (suc n) e = (n, e)

    found_run : (d : Direction) (at stop pos : ℕ) (found : Option ℕ) (c : Comparing d at stop pos found) (n : ℕ) → c.count ≡ suc n
        → (o : Option ℕ) → run d (suc n) c.from c.there ≡ o → found ≡ option_map (λ p. offset text p) o
    found_run d at stop pos found c n e o r = c.found_is ∙ ap (λ n. option_map (λ p. offset text p) (run d n c.from c.there)) e ∙ ap (option_map (λ p. offset text p)) r

    pub none_at : (d : Direction) (at stop pos : ℕ) (found : Option ℕ) → Comparing d at stop pos found → at ≢ stop → read text d at ≡ None → found ≡ None
    none_at d at stop pos found c ne r =
        let n = more d at stop pos found c ne in
        found_run d at stop pos found c n.0 n.1 None (run-none d n.0 c.from c.there (no_next d at c.from c.at_from r))

    pub none_there : (d : Direction) (at stop pos : ℕ) (found : Option ℕ) → Comparing d at stop pos found → at ≢ stop → read text d pos ≡ None → found ≡ None
    none_there d at stop pos found c ne r =
        let n = more d at stop pos found c ne in
        found_run d at stop pos found c n.0 n.1 None (run-none_there d n.0 c.from c.there (no_next d pos c.there c.pos_there r))

    pub differs : (d : Direction) (at stop pos : ℕ) (found : Option ℕ) (x y at' pos' : ℕ) → Comparing d at stop pos found → at ≢ stop
        → read text d at ≡ Some (pair x at') → read text d pos ≡ Some (pair y pos') → same x y ≡ false → found ≡ None
    differs d at stop pos found x y at' pos' c ne r s f =
        let n = more d at stop pos found c ne in
        let a = read_next d at x at' c.from c.at_from r in
        let k = read_next d pos y pos' c.there c.pos_there s in
        found_run d at stop pos found c n.0 n.1 None
        (run-some d n.0 c.from c.there x y a.0 k.0 ∙ ap (λ (b : Bool). if b then run d n.0 (moved text d 1 c.from) (moved text d 1 c.there) else None) f)

    moved_on : (d : Direction) (n p : ℕ) → suc n ≤ characters_ahead text d p → moved text d (suc n) p ≡ moved text d n (moved text d 1 p)
    moved_on rightwards n p l = omega arith
    moved_on leftwards n p l = omega arith

    fits_on : (d : Direction) (n p : ℕ) → suc n ≤ characters_ahead text d p → n ≤ characters_ahead text d (moved text d 1 p)
    fits_on rightwards n p l = omega arith
    fits_on leftwards n p l = omega arith

    pub goes_on : (d : Direction) (at stop pos : ℕ) (found : Option ℕ) (x y at' pos' : ℕ) → Comparing d at stop pos found → at ≢ stop
        → read text d at ≡ Some (pair x at') → read text d pos ≡ Some (pair y pos') → same x y ≡ true → Comparing d at' stop pos' found
    goes_on d at stop pos found x y at' pos' c ne r s f =
        let n = more d at stop pos found c ne in
        let a = read_next d at x at' c.from c.at_from r in
        let k = read_next d pos y pos' c.there c.pos_there s in
        let l : suc n.0 ≤ characters_ahead text d c.from = omega (arith, c.fits, n.1) in
        record {
          count = n.0;
          from = moved text d 1 c.from;
          at_from = a.1;
          there = moved text d 1 c.there;
          pos_there = k.1;
          stops = subst (HasPlace text stop) (ap (λ m. moved text d m c.from) n.1 ∙ moved_on d n.0 c.from l) c.stops;
          fits = fits_on d n.0 c.from l;
          found_is = found_run d at stop pos found c n.0 n.1 (run d n.0 (moved text d 1 c.from) (moved text d 1 c.there))
              (run-some d n.0 c.from c.there x y a.0 k.0 ∙ ap (λ (b : Bool). if b then run d n.0 (moved text d 1 c.from) (moved text d 1 c.there) else None) f);
        }

    -- A loop in either direction begins with the comparison of the whole range.
    pub starts : (forward : Bool) (at from to a stop : ℕ) → IsBoundary text at → IsBoundary text from → IsBoundary text to → from ≤ to
        → ((a ≡ from) × (stop ≡ to) × (forward ≡ true)) ⊎ ((a ≡ to) × (stop ≡ from) × (forward ≡ false))
        → Comparing (direction_of_forward_flag forward) a stop at (past_spelled_if_next text same (characters_between text from to) (direction_of_forward_flag forward) at)
    starts forward at from to a stop b f t l (inl (x, y, z)) =
        subst (λ d. Comparing (direction_of_forward_flag d) a stop at (past_spelled_if_next text same (characters_between text from to) (direction_of_forward_flag d) at)) (sym z)
        (subst (λ m. Comparing rightwards m stop at (past_spelled_if_next text same (characters_between text from to) rightwards at)) (sym x)
        (subst (λ m. Comparing rightwards from m at (past_spelled_if_next text same (characters_between text from to) rightwards at)) (sym y)
        (start_right at from to b f t l)))
    starts forward at from to a stop b f t l (inr (x, y, z)) =
        subst (λ d. Comparing (direction_of_forward_flag d) a stop at (past_spelled_if_next text same (characters_between text from to) (direction_of_forward_flag d) at)) (sym z)
        (subst (λ m. Comparing leftwards m stop at (past_spelled_if_next text same (characters_between text from to) leftwards at)) (sym x)
        (subst (λ m. Comparing leftwards to m at (past_spelled_if_next text same (characters_between text from to) leftwards at)) (sym y)
        (start_left at from to b f t l)))

    -- Each step leads nearer to the stop.
    pub nearer : (d : Direction) (at stop pos : ℕ) (found : Option ℕ) (x at' pos' : ℕ) → Comparing d at stop pos found → Comparing d at' stop pos' found → at ≢ stop
        → read text d at ≡ Some (pair x at') → (at' - stop) + (stop - at') < (at - stop) + (stop - at)
    nearer rightwards at stop pos found x at' pos' c c' ne r =
        let s = step_right text is_text at x at' r in
        let less : at < at' = omega (arith, offset-less text s.place (suc s.place) is_text (omega arith) s.upto.within, s.from.offset_is, s.upto.offset_is) in
        let order : at' ≤ stop = omega (arith, offset-le text c'.from (moved text rightwards c'.count c'.from) is_text (omega arith) c'.stops.within, c'.at_from.offset_is, c'.stops.offset_is) in
        omega arith
    nearer leftwards at stop pos found x at' pos' c c' ne r =
        let s = step_left text is_text at x at' r in
        let less : at' < at = omega (arith, offset-less text s.place (suc s.place) is_text (omega arith) s.from.within, s.from.offset_is, s.upto.offset_is) in
        let order : stop ≤ at' = omega (arith, offset-le text (moved text leftwards c'.count c'.from) c'.from is_text (omega arith) c'.at_from.within, c'.at_from.offset_is, c'.stops.offset_is) in
        omega arith
