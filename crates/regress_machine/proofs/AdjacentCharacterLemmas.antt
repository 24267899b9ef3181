-- Characters occur next to a position exactly if they begin the characters read from there.
use Rattle.std.proofs.Common.{◌≡◌, ℕ, ◌<◌, ◌≤◌, List, [], ◌∷◌, ◌++◌, length, take, Bool, true, false, refl, ap, ◌∙◌, sym, arith, reverse}
use Rattle.std.specs.Prelude.{nat_le, ◌&&◌}
use Rattle.std.proofs.lemmas.List.{reverse-append, length-reverse, reverse-reverse, length-take-le}
use lib.Pointwise.{pointwise}
use Rattle.regex_meaning.specs.Text.{Text, Direction, rightwards, leftwards, last_place, characters_ahead, next_characters}
use Rattle.regex_meaning.specs.OutcomesWithStepTicks.{nearest_first}
use Rattle.std.proofs.lemmas.Bool.{leb-false, leb-true}
use Rattle.regress_machine.proofs.NearestCharacterLemmas.{length-nearest, in_text_order, characters_beside-nearest}
use Rattle.std.proofs.Math.Bool.{and-true, and-false}
use Rattle.regex_meaning.proofs.BoolLemmas.{and-right}

-- ---- Lists

-- Each element of the first list is the same as that of the second at its place, which exists.
abbrev pub stands : (ℕ → ℕ → Bool) → List ℕ → List ℕ → Bool
stands same [] ds = true
stands same (c ∷ cs) [] = false
stands same (c ∷ cs) (d ∷ ds) = same c d && stands same cs ds

stands-enough : (same : ℕ → ℕ → Bool) (cs ds : List ℕ) → length cs ≤ length ds → stands same cs ds ≡ pointwise same cs (take (length cs) ds)
stands-enough same [] ds le = refl
stands-enough same (c ∷ cs) [] le = absurd (omega arith)
stands-enough same (c ∷ cs) (d ∷ ds) le = ap (λ b. same c d && b) (stands-enough same cs ds (omega arith))

stands-short : (same : ℕ → ℕ → Bool) (cs ds : List ℕ) → length ds < length cs → stands same cs ds ≡ false
stands-short same [] ds less = absurd (omega arith)
stands-short same (c ∷ cs) [] less = refl
stands-short same (c ∷ cs) (d ∷ ds) less = ap (λ b. same c d && b) (stands-short same cs ds (omega arith)) ∙ and-false (same c d)

pub stands-length : (same : ℕ → ℕ → Bool) (cs ds : List ℕ) → stands same cs ds ≡ true → length cs ≤ length ds
stands-length same [] ds h = omega arith
stands-length same (c ∷ cs) [] h = cc
stands-length same (c ∷ cs) (d ∷ ds) h = let l = stands-length same cs ds (and-right (same c d) (stands same cs ds) h) in omega arith

pub and_assoc : (a b c : Bool) → (a && (b && c)) ≡ ((a && b) && c)
and_assoc true b c = refl
and_assoc false b c = refl

and_swap : (a b : Bool) → (a && b) ≡ (b && a)
and_swap true true = refl
and_swap true false = refl
and_swap false true = refl
and_swap false false = refl

pointwise-append : (same : ℕ → ℕ → Bool) (xs ys cs ds : List ℕ) → length xs ≡ length ys
    → pointwise same (xs ++ cs) (ys ++ ds) ≡ (pointwise same xs ys && pointwise same cs ds)
pointwise-append same [] [] cs ds e = refl
pointwise-append same [] (y ∷ ys) cs ds e = absurd (omega arith)
pointwise-append same (x ∷ xs) [] cs ds e = absurd (omega arith)
pointwise-append same (x ∷ xs) (y ∷ ys) cs ds e =
    ap (λ z. same x y && z) (pointwise-append same xs ys cs ds (omega arith)) ∙ and_assoc (same x y) (pointwise same xs ys) (pointwise same cs ds)

pointwise-reverse : (same : ℕ → ℕ → Bool) (cs ds : List ℕ) → length cs ≡ length ds → pointwise same (reverse cs) (reverse ds) ≡ pointwise same cs ds
pointwise-reverse same [] [] e = refl
pointwise-reverse same [] (d ∷ ds) e = absurd (omega arith)
pointwise-reverse same (c ∷ cs) [] e = absurd (omega arith)
pointwise-reverse same (c ∷ cs) (d ∷ ds) e =
    let l : length (reverse cs) ≡ length (reverse ds) = length-reverse cs ∙ (let f : length cs ≡ length ds = omega arith in f) ∙ sym (length-reverse ds) in
    ap (λ (l : List ℕ). pointwise same l (reverse (d ∷ ds))) (reverse-append (c ∷ []) cs)
    ∙ ap (pointwise same (reverse cs ++ (c ∷ []))) (reverse-append (d ∷ []) ds)
    ∙ pointwise-append same (reverse cs) (reverse ds) (c ∷ []) (d ∷ []) l
    ∙ ap (λ b. pointwise same (reverse cs) (reverse ds) && b) (and-true (same c d))
    ∙ and_swap (pointwise same (reverse cs) (reverse ds)) (same c d)
    ∙ ap (λ b. same c d && b) (pointwise-reverse same cs ds (omega arith))

-- ---- Texts

module _ (text : Text) where
  -- These are the characters in the order in which they are read in a direction.
  abbrev pub in_reading_order : Direction → List ℕ → List ℕ
  in_reading_order rightwards cs = cs
  in_reading_order leftwards cs = reverse cs

  pub length-reading : (d : Direction) (cs : List ℕ) → length (in_reading_order d cs) ≡ length cs
  length-reading rightwards cs = refl
  length-reading leftwards cs = length-reverse cs

  in_both_orders : (same : ℕ → ℕ → Bool) (d : Direction) (cs ds : List ℕ) → length cs ≡ length ds
      → pointwise same cs (in_text_order text d ds) ≡ pointwise same (in_reading_order d cs) ds
  in_both_orders same rightwards cs ds e = refl
  in_both_orders same leftwards cs ds e =
      ap (λ (l : List ℕ). pointwise same l (reverse ds)) (sym (reverse-reverse cs))
      ∙ pointwise-reverse same (reverse cs) ds (length-reverse cs ∙ e)

  -- The next characters are these exactly if these begin the characters read from there.
  pub beside-stands : (same : ℕ → ℕ → Bool) (cs : List ℕ) (d : Direction) (p : ℕ) → p ≤ last_place text
      → (nat_le (length cs) (characters_ahead text d p) && pointwise same cs (next_characters text d (length cs) p))
      ≡ stands same (in_reading_order d cs) (nearest_first text d p)
  beside-stands same cs d p inside = by (nat_le (length cs) (characters_ahead text d p)) refl
    where
      near : List ℕ
      near = nearest_first text d p

      all : length (nearest_first text d p) ≡ characters_ahead text d p
      all = length-nearest text d p inside

      by : (b : Bool) → nat_le (length cs) (characters_ahead text d p) ≡ b
          → (b && pointwise same cs (next_characters text d (length cs) p)) ≡ stands same (in_reading_order d cs) (nearest_first text d p)
      by true e =
          let le = leb-true (length cs) (characters_ahead text d p) e in
          let n = length-reading d cs in
          let few : length cs ≤ length (nearest_first text d p) = omega (arith, all, le) in
          let l : length cs ≡ length (take (length cs) (nearest_first text d p)) = sym (length-take-le (length cs) (nearest_first text d p) few) in
          ap (pointwise same cs) (characters_beside-nearest text d (length cs) p inside le)
          ∙ in_both_orders same d cs (take (length cs) (nearest_first text d p)) l
          ∙ ap (λ n. pointwise same (in_reading_order d cs) (take n (nearest_first text d p))) (sym n)
          ∙ sym (stands-enough same (in_reading_order d cs) (nearest_first text d p) (omega (arith, few, n)))
      by false e =
          let less = leb-false (length cs) (characters_ahead text d p) e in
          let n = length-reading d cs in
          sym (stands-short same (in_reading_order d cs) (nearest_first text d p) (omega (arith, less, n, all)))
