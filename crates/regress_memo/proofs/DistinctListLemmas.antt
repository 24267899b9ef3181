-- Distinct elements of a list cost together at most as much as the whole list.
use Rattle.std.proofs.Common.{◌≡◌, ◌≤◌, ℕ, ◌+◌, List, [], ◌∷◌, ◌++◌, length, sum_by, refl, sym, ◌∙◌, ap, subst, arith}
use mathlib.Core.Logic.{inl, inr}
use Rattle.std.proofs.lemmas.List.Sums.{sum_by-cons, sum_by-append}
use Rattle.regex_meaning.specs.Laws.{Each}
use Rattle.regex_meaning.proofs.EachElementLemmas.{Each-append, Each-left, Each-right}
use Rattle.regress_memo.specs.DistinctLists.{IsIn, IsNew, AreDistinct, AreIn}
use Rattle.regress_memo.specs.MemoSearch.{DistinctKeysCostAtMostList}

module _ {K : Type 0} where
  -- `without` is the list without one occurrence of `k`.
  without : (k : K) (all : List K) → IsIn k all → List K
  without k [] h = []
  without k (j ∷ all) (inl e) = all
  without k (j ∷ all) (inr h) = j ∷ without k all h

  sum-without : (key_cost : K → ℕ) (k : K) (all : List K) (h : IsIn k all) → key_cost k + sum_by key_cost (without k all h) ≡ sum_by key_cost all
  unfolding without
  sum-without key_cost k [] h = absurd h
  sum-without key_cost k (j ∷ all) (inl e) = ap (λ i. key_cost i + sum_by key_cost all) (sym e) ∙ sym (sum_by-cons key_cost j all)
  sum-without key_cost k (j ∷ all) (inr h) =
      let a = sum-without key_cost k all h in let b = sum_by-cons key_cost j all in let c = sum_by-cons key_cost j (without k all h) in omega (arith, a, b, c)

  in-without : (k : K) (all : List K) (h : IsIn k all) (i : K) → (i ≡ k → ⊥) → IsIn i all → IsIn i (without k all h)
  unfolding without
  in-without k [] h i other there = absurd h
  in-without k (j ∷ all) (inl e) i other (inl f) = absurd (other (sym f ∙ e))
  in-without k (j ∷ all) (inl e) i other (inr there) = there
  in-without k (j ∷ all) (inr h) i other (inl f) = inl f
  in-without k (j ∷ all) (inr h) i other (inr there) = inr (in-without k all h i other there)

  are-without : (k : K) (all : List K) (h : IsIn k all) (ks : List K) → IsNew k ks → AreIn ks all → AreIn ks (without k all h)
  are-without k all h [] new there = tt
  are-without k all h (i ∷ ks) new there = (in-without k all h i new.0 there.0, are-without k all h ks new.1 there.1)

  pub cost-few : (key_cost : K → ℕ) (ks all : List K) → AreDistinct ks → AreIn ks all → sum_by key_cost ks ≤ sum_by key_cost all
  cost-few key_cost [] all distinct there = omega arith
  cost-few key_cost (k ∷ ks) all distinct there =
      let less = cost-few key_cost ks (without k all there.0) distinct.1 (are-without k all there.0 ks distinct.0 there.1) in
      let a = sum-without key_cost k all there.0 in
      let b = sum_by-cons key_cost k ks in
      omega (arith, less, a, b)

  sum-ones : (ks : List K) → sum_by (λ k. 1) ks ≡ length ks
  sum-ones [] = refl
  sum-ones (k ∷ ks) = let a = sum_by-cons (λ (k : K). 1) k ks in let b = sum-ones ks in omega (arith, a, b)

  few-number : (ks all : List K) → AreDistinct ks → AreIn ks all → length ks ≤ length all
  few-number ks all distinct there = let few = cost-few (λ k. 1) ks all distinct there in let a = sum-ones ks in let b = sum-ones all in omega (arith, few, a, b)

  -- ---- Joined lists

  pub distinct-left : (xs ys : List K) → AreDistinct (xs ++ ys) → AreDistinct xs
  distinct-left [] ys h = tt
  distinct-left (x ∷ xs) ys h = (Each-left (λ j. j ≡ x → ⊥) xs ys h.0, distinct-left xs ys h.1)

  pub distinct-right : (xs ys : List K) → AreDistinct (xs ++ ys) → AreDistinct ys
  distinct-right [] ys h = h
  distinct-right (x ∷ xs) ys h = distinct-right xs ys h.1

  -- Distinct elements stay distinct if the first one is moved behind some others.
  pub distinct-moved : (k : K) (xs ys : List K) → AreDistinct (k ∷ (xs ++ ys)) → AreDistinct (xs ++ k ∷ ys)
  distinct-moved k [] ys h = h
  distinct-moved k (x ∷ xs) ys h = (
    Each-append (λ j. j ≡ x → ⊥) xs (k ∷ ys) (Each-left (λ j. j ≡ x → ⊥) xs ys h.1.0) ((λ e. h.0.0 (sym e), Each-right (λ j. j ≡ x → ⊥) xs ys h.1.0)),
    distinct-moved k xs ys (h.0.1, h.1.1),
  )

  pub in-moved : (k : K) (xs ys all : List K) → AreIn (k ∷ (xs ++ ys)) all → AreIn (xs ++ k ∷ ys) all
  in-moved k xs ys all h = Each-append (λ j. IsIn j all) xs (k ∷ ys) (Each-left (λ j. IsIn j all) xs ys h.1) (h.0, Each-right (λ j. IsIn j all) xs ys h.1)

  pub sum-moved : (key_cost : K → ℕ) (k : K) (xs ys : List K) → sum_by key_cost (xs ++ k ∷ ys) ≡ sum_by key_cost (k ∷ (xs ++ ys))
  sum-moved key_cost k xs ys =
      let a = sum_by-append key_cost xs (k ∷ ys) in
      let b = sum_by-cons key_cost k ys in
      let c = sum_by-cons key_cost k (xs ++ ys) in
      let e = sum_by-append key_cost xs ys in
      omega (arith, a, b, c, e)

  -- Joined lists are distinct if both are and none has an element of the other.
  pub distinct-joined : (xs ys : List K) → AreDistinct xs → Each (λ x. IsNew x ys) xs → AreDistinct ys → AreDistinct (xs ++ ys)
  distinct-joined [] ys d new e = e
  distinct-joined (x ∷ xs) ys d new e = (Each-append (λ j. j ≡ x → ⊥) xs ys d.0 new.0, distinct-joined xs ys d.1 new.1 e)

  -- A fact that holds of all elements of a list holds of each element in it.
  pub each-in : (P : K → Type 0) (k : K) (ks : List K) → IsIn k ks → Each P ks → P k
  each-in P k [] h all = absurd h
  each-in P k (j ∷ ks) (inl e) all = subst P e all.0
  each-in P k (j ∷ ks) (inr h) all = each-in P k ks h all.1

pub distinct-few : DistinctKeysCostAtMostList
distinct-few = record {
  cost = λ key_cost ks all distinct there. cost-few key_cost ks all distinct there;
  number = λ ks all distinct there. few-number ks all distinct there;
}
