-- A range of a list grows by one element at its front or its back.
use Rattle.std.proofs.Common.{◌≡◌, ℕ, zero, suc, ◌+◌, ◌-◌, ◌≤◌, List, [], ◌∷◌, ◌++◌, length, take, drop, slice_get, slice_range, Some, Bool, true, false, not, ◌&&◌, ◌≢◌, nat_eq, refl, sym, ◌∙◌, ap}
use Rattle.std.proofs.Common.{arith, eq-eqb, eqb-true}
use lib.Pointwise.{pointwise}

pub get-cons : (xs : List ℕ) (a c : ℕ) → slice_get xs a ≡ Some c → drop a xs ≡ c ∷ drop (suc a) xs
get-cons [] a c e = absurd (cc)
get-cons (x ∷ xs) zero c e = let same : x ≡ c = cc in ap (λ y. y ∷ xs) same
get-cons (x ∷ xs) (suc a) c e = get-cons xs a c e

-- ---- Ranges with one more element

-- A range is the element at its start and then the range from the next place on.
pub slice-first : (xs : List ℕ) (a n c : ℕ) → slice_get xs a ≡ Some c → slice_range xs a (a + suc n) ≡ c ∷ slice_range xs (suc a) (suc a + n)
slice-first xs a n c e =
    let i : a + suc n - a ≡ suc n = omega arith in
    let j : suc a + n - suc a ≡ n = omega arith in
    ap (λ m. take m (drop a xs)) i ∙ ap (take (suc n)) (get-cons xs a c e) ∙ ap (λ m. c ∷ take m (drop (suc a) xs)) (sym j)

take-snoc : (xs : List ℕ) (n c : ℕ) → slice_get xs n ≡ Some c → take (suc n) xs ≡ take n xs ++ c ∷ []
take-snoc [] n c e = absurd (cc)
take-snoc (x ∷ xs) zero c e = let same : x ≡ c = cc in ap (λ y. y ∷ []) same
take-snoc (x ∷ xs) (suc n) c e = ap (λ l. x ∷ l) (take-snoc xs n c e)

get-drop : (xs : List ℕ) (a i : ℕ) → slice_get (drop a xs) i ≡ slice_get xs (a + i)
get-drop xs zero i = let e : i ≡ 0 + i = omega arith in ap (slice_get xs) e
get-drop [] (suc a) i = refl
get-drop (x ∷ xs) (suc a) i = let e : suc a + i ≡ suc (a + i) = omega arith in get-drop xs a i ∙ ap (slice_get (x ∷ xs)) (sym e)

-- A range up to behind a place is the range up to the place and then the element there.
pub slice-last : (xs : List ℕ) (s a c : ℕ) → s ≤ a → slice_get xs a ≡ Some c → slice_range xs s (suc a) ≡ slice_range xs s a ++ c ∷ []
slice-last xs s a c l e =
    let i : suc a - s ≡ suc (a - s) = omega arith in
    let j : s + (a - s) ≡ a = omega arith in
    ap (λ m. take m (drop s xs)) i ∙ take-snoc (drop s xs) (a - s) c (get-drop xs s (a - s) ∙ ap (slice_get xs) j ∙ e)

-- ---- Tests

and_swap : (a b c : Bool) → (a && (b && c)) ≡ (b && (a && c))
and_swap true true c = refl
and_swap true false c = refl
and_swap false true c = refl
and_swap false false c = refl

pub pointwise-snoc : (f : ℕ → ℕ → Bool) (xs ys : List ℕ) (c d : ℕ) → length xs ≡ length ys → pointwise f (xs ++ c ∷ []) (ys ++ d ∷ []) ≡ (f c d && pointwise f xs ys)
pointwise-snoc f [] [] c d e = refl
pointwise-snoc f [] (y ∷ ys) c d e = absurd (omega arith)
pointwise-snoc f (x ∷ xs) [] c d e = absurd (omega arith)
pointwise-snoc f (x ∷ xs) (y ∷ ys) c d e = ap (λ b. f x y && b) (pointwise-snoc f xs ys c d (omega arith)) ∙ and_swap (f x y) (f c d) (pointwise f xs ys)

-- If the negated test of equality passes, the numbers differ.
pub unequal : (x y : ℕ) (b e : Bool) → b ≡ not e → e ≡ nat_eq x y → b ≡ true → x ≢ y
unequal x y b e f g h z = absurd (no (sym (g ∙ eq-eqb x y z)))
  where
    no : true ≡ e → ⊥
    no t = let p : b ≡ false = f ∙ ap not (sym t) in cc

pub equal : (x y : ℕ) (b e : Bool) → b ≡ not e → e ≡ nat_eq x y → b ≡ false → x ≡ y
equal x y b true f g h = eqb-true x y (sym g)
equal x y b false f g h = absurd (cc)
