-- Facts about lists of names, from the first name that passes a test.
use Rattle.std.proofs.Common.{◌≡◌, ◌≢◌, ℕ, zero, suc, ◌+◌, ◌<◌, Bool, true, false, ◌&&◌, ◌||◌, inl, inr, List, [], ◌∷◌, ◌++◌, length, map, refl, sym, ◌∙◌, ap, subst, arith}
use Rattle.std.specs.Prelude.{All, Contains, Option, Some, None, ◌⊎◌, bytes_eq, find, is_none, slice_index_or}
use Rattle.std.specs.List.{list_any}
use Rattle.std.proofs.lemmas.Bool.{cases_Bool, or_parts}
use Rattle.std.proofs.lemmas.List.{get_or_default}
use Rattle.std.proofs.lemmas.List.Elements.{Contains-append_cases, Contains-append_left, Contains-append_right}
use Rattle.std.proofs.lemmas.Slice.Eq.{bytes_eq-Decides}
use Rattle.use_renamer.specs.Names.{AllDiffer, all_differ, is_among}

-- ---- All elements

all-cons : {Y : Type 0} (P : Y → Type 0) (y : Y) (ys : List Y) → P y → All P ys → All P (y ∷ ys)
all-cons P y ys here rest zero d lt = here
all-cons P y ys here rest (suc k) d lt = rest k d (omega arith)

module _ {X Y : Type 0} (P : Y → Type 0) (f : X → Y) (test : X → Bool) where
  -- If no element passes the test, a property of the elements that fail it holds for all.
  pub none-found : ((x : X) → test x ≡ false → P (f x)) → (xs : List X) → find test xs ≡ None → All P (map f xs)
  none-found fails [] e = λ k d lt. absurd (omega arith)
  none-found fails (x ∷ xs) e = elim (cases_Bool (test x)) [
    | inl t ↦ let never : Some x ≡ None = rw t at e in absurd (cc)
    | inr q ↦ all-cons P (f x) (map f xs) (fails x q) (none-found fails xs (rw q at e))
  ]

  -- If an element passes the test, a property that no such element has does not hold for all.
  pub some-found : ((x : X) → test x ≡ true → ¬ P (f x)) → (xs : List X) (y : X) → find test xs ≡ Some y → ¬ All P (map f xs)
  some-found passes [] y e h = let never : None ≡ Some y = e in absurd (cc)
  some-found passes (x ∷ xs) y e h = elim (cases_Bool (test x)) [
    | inl t ↦ passes x t (h 0 (f x) (omega arith))
    | inr q ↦ some-found passes xs y (rw q at e) (λ k d lt. h (suc k) d (omega arith))
  ]

-- ---- Names that occur in a list

module _ {X : Type 0} (f : X → List ℕ) (name : List ℕ) where
  not-first : (x : List ℕ) (xs : List (List ℕ)) → x ≢ name → ¬ Contains xs name → ¬ Contains (x ∷ xs) name
  not-first x xs other rest (zero, lt, same) = other same
  not-first x xs other rest (suc k, lt, same) = rest (k, omega arith, same)

  pub among : (xs : List X) → is_among f name xs ≡ true → Contains (map f xs) name
  among [] e = absurd (cc)
  among (x ∷ xs) e = elim (cases_Bool (bytes_eq name (f x))) [
    | inl t ↦ (0, omega arith, sym ((bytes_eq-Decides name (f x)).0 t))
    | inr q ↦ let k = among xs (rw q at e) in (suc k.0, omega arith, k.2)
  ]

  pub not-among : (xs : List X) → is_among f name xs ≡ false → ¬ Contains (map f xs) name
  not-among [] e k = omega arith
  not-among (x ∷ xs) e (zero, lt, same) = let h = or_parts (bytes_eq name (f x)) (is_among f name xs) e in let never : false ≡ true = sym h.0 ∙ (bytes_eq-Decides name (f x)).1 (sym same) in absurd (cc)
  not-among (x ∷ xs) e (suc k, lt, same) = let h = or_parts (bytes_eq name (f x)) (is_among f name xs) e in not-among xs h.1 (k, omega arith, same)

  -- A name that occurs in one of two lists.
  pub among-either : (xs ys : List X) → (is_among f name xs || is_among f name ys) ≡ true → Contains (map f xs ++ map f ys) name
  among-either xs ys e = elim (cases_Bool (is_among f name xs)) [
    | inl t ↦ Contains-append_left (map f xs) (map f ys) name (among xs t)
    | inr q ↦ Contains-append_right (map f xs) (map f ys) name (among ys (rw q at e))
  ]

  pub among-neither : (xs ys : List X) → (is_among f name xs || is_among f name ys) ≡ false → ¬ Contains (map f xs ++ map f ys) name
  among-neither xs ys e has = let h = or_parts (is_among f name xs) (is_among f name ys) e in elim (Contains-append_cases (map f xs) (map f ys) name has) [
    | inl k ↦ not-among xs h.0 k
    | inr k ↦ not-among ys h.1 k
  ]

  -- The first name in a list that is equal to this one.
  pub found-among : (xs : List X) (y : X) → find (λ x. bytes_eq name (f x)) xs ≡ Some y → Contains (map f xs) name
  found-among [] y e = let never : None ≡ Some y = e in absurd (cc)
  found-among (x ∷ xs) y e = elim (cases_Bool (bytes_eq name (f x))) [
    | inl t ↦ (0, omega arith, sym ((bytes_eq-Decides name (f x)).0 t))
    | inr q ↦ let k = found-among xs y (rw q at e) in (suc k.0, omega arith, k.2)
  ]

  pub none-among : (xs : List X) → find (λ x. bytes_eq name (f x)) xs ≡ None → ¬ Contains (map f xs) name
  none-among [] e k = omega arith
  none-among (x ∷ xs) e k = elim (cases_Bool (bytes_eq name (f x))) [
    | inl t ↦ let never : Some x ≡ None = rw t at e in absurd (cc)
    | inr q ↦ not-first (f x) (map f xs) (λ same. let never : false ≡ true = sym q ∙ (bytes_eq-Decides name (f x)).1 (sym same) in absurd (cc)) (none-among xs (rw q at e)) k
  ]

-- ---- Different names

differ-cons : (x : List ℕ) (xs : List (List ℕ)) → ¬ Contains xs x → AllDiffer xs → AllDiffer (x ∷ xs)
differ-cons x xs other h i zero d lt lt2 = absurd (omega arith)
differ-cons x xs other h zero (suc j) d lt lt2 =
    let inside : j < length xs = omega arith in
    λ e. other (j, inside, get_or_default xs j x d inside ∙ sym e)
differ-cons x xs other h (suc i) (suc j) d lt lt2 = h i j d (omega arith) (omega arith)

not-differ : (x : List ℕ) (xs : List (List ℕ)) → Contains xs x → ¬ AllDiffer (x ∷ xs)
not-differ x xs has h = let k = has.0 in let inside : k < length xs = has.1 in h 0 (suc k) x (omega arith) (omega arith) (sym has.2)

module _ {X : Type 0} (f : X → List ℕ) where
  -- All names after the first one differ too.
  tail-differs : (x : List ℕ) (xs : List (List ℕ)) → AllDiffer (x ∷ xs) → AllDiffer xs
  tail-differs x xs h i j d lt lt2 = h (suc i) (suc j) d (omega arith) (omega arith)

  -- The test shows that all names differ.
  pub differ : (xs : List X) → all_differ f xs ≡ true → AllDiffer (map f xs)
  differ [] e = λ i j d lt lt2. absurd (omega arith)
  differ (x ∷ xs) e = by (find (λ y. bytes_eq (f x) (f y)) xs) refl (differ xs)
    where
      by : (first : Option X) → find (λ y. bytes_eq (f x) (f y)) xs ≡ first → (all_differ f xs ≡ true → AllDiffer (map f xs)) → AllDiffer (f x ∷ map f xs)
      by None q rest = differ-cons (f x) (map f xs) (none-among f (f x) xs q) (rest (rw q at e))
      by (Some y) q rest = let never : false ≡ true = rw q at e in absurd (cc)

  pub not-differing : (xs : List X) → all_differ f xs ≡ false → ¬ AllDiffer (map f xs)
  not-differing [] e = absurd (cc)
  not-differing (x ∷ xs) e = by (find (λ y. bytes_eq (f x) (f y)) xs) refl (not-differing xs)
    where
      by : (first : Option X) → find (λ y. bytes_eq (f x) (f y)) xs ≡ first → (all_differ f xs ≡ false → ¬ AllDiffer (map f xs)) → ¬ AllDiffer (f x ∷ map f xs)
      by None q rest h = rest (rw q at e) (tail-differs (f x) (map f xs) h)
      by (Some y) q rest h = not-differ (f x) (map f xs) (found-among f (f x) xs y q) h

  -- An iteration of the loop that searches for two equal names.
  pub pair-next : (x : X) (xs rest : List X) (name : List ℕ) (answer : Bool) → xs ≡ x ∷ rest → name ≡ f x → find (λ y. bytes_eq name (f y)) rest ≡ None
      → all_differ f xs ≡ answer → all_differ f rest ≡ answer
  pair-next x xs rest name answer parts same none told =
      let here : find (λ y. bytes_eq (f x) (f y)) rest ≡ None = subst (λ n. find (λ y. bytes_eq n (f y)) rest ≡ None) same none in
      sym (ap (λ o. is_none o && all_differ f rest) here) ∙ sym (ap (all_differ f) parts) ∙ told

  pub pair-found : (x : X) (xs rest : List X) (name : List ℕ) (answer : Bool) (y : X) → xs ≡ x ∷ rest → name ≡ f x → find (λ y. bytes_eq name (f y)) rest ≡ Some y
      → all_differ f xs ≡ answer → false ≡ answer
  pair-found x xs rest name answer y parts same found told =
      let here : find (λ y. bytes_eq (f x) (f y)) rest ≡ Some y = subst (λ n. find (λ y. bytes_eq n (f y)) rest ≡ Some y) same found in
      sym (ap (λ o. is_none o && all_differ f rest) here) ∙ sym (ap (all_differ f) parts) ∙ told
