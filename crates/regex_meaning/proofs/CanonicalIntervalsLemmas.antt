-- Two canonical lists of intervals that have the same members are equal.
use Rattle.std.proofs.Common.{◌≡◌, ℕ, suc, ◌<◌, ◌≤◌, true, false, [], ◌∷◌, true≢false, inl, inr, ⊎_elim, ◌⊎◌, refl, sym, ap₂, ◌∙◌, arith, le_refl}
use Rattle.std.specs.Int.{is_in_range}
use Rattle.std.proofs.lemmas.Bool.{or_cases, cases_lt}
use Rattle.regex_meaning.specs.Tree.{Intervals}
use Rattle.regex_meaning.specs.Outcomes.{in_intervals}
use Rattle.regex_meaning.specs.CharacterClasses.{AreCanonicalIntervals}
use Rattle.regex_meaning.proofs.FirstByteOfCharacter.{in_range-true, in_range-below}

out_high : (low high c : ℕ) → high < c → is_in_range low high c ≡ false
out_high low high c e = grind arith

above : (low high c : ℕ) → is_in_range low high c ≡ true → low ≤ c
above low high c e = grind arith

holds : (i : ℕ × ℕ) (is : Intervals) → AreCanonicalIntervals (i ∷ is) → i.0 ≤ i.1
holds i [] a = a
holds i (j ∷ js) a = a.0

rest_apart : (i : ℕ × ℕ) (is : Intervals) → AreCanonicalIntervals (i ∷ is) → AreCanonicalIntervals is
rest_apart i [] a = tt
rest_apart i (j ∷ js) a = a.2

below_rest : (i : ℕ × ℕ) (is : Intervals) → AreCanonicalIntervals (i ∷ is) → (c : ℕ) → c ≤ suc i.1 → in_intervals is c ≡ false
below_rest i [] a c e = refl
below_rest i (j ∷ js) a c e =
    let h : j.0 ≤ j.1 = holds j js a.2 in
    let g : suc i.1 < j.0 = a.1 in
    rw (in_range-below j.0 j.1 c (omega arith)) (below_rest j js a.2 c (omega arith))

least : (i : ℕ × ℕ) (is : Intervals) → AreCanonicalIntervals (i ∷ is) → (c : ℕ) → in_intervals (i ∷ is) c ≡ true → i.0 ≤ c
least i is a c e = ⊎_elim (λ f. above i.0 i.1 c f) (λ f. beyond (cases_lt (suc i.1) c) f) (or_cases (is_in_range i.0 i.1 c) _ e)
  where
    beyond : (suc i.1 < c) ⊎ (c ≤ suc i.1) → in_intervals is c ≡ true → i.0 ≤ c
    beyond (inl g) f = let h : i.0 ≤ i.1 = holds i is a in omega arith
    beyond (inr g) f = absurd (true≢false (sym f ∙ below_rest i is a c g))

at_first : (i : ℕ × ℕ) (is : Intervals) → AreCanonicalIntervals (i ∷ is) → in_intervals (i ∷ is) i.0 ≡ true
at_first i is a = rw (in_range-true i.0 i.1 i.0 (le_refl i.0) (holds i is a)) refl

no_longer : (i j : ℕ × ℕ) (is js : Intervals) → AreCanonicalIntervals (i ∷ is) → i.0 ≡ j.0 → ((c : ℕ) → in_intervals (i ∷ is) c ≡ in_intervals (j ∷ js) c) → i.1 < j.1 → ⊥
no_longer i j is js a e same f =
    let h : i.0 ≤ i.1 = holds i is a in
    let x : in_intervals (j ∷ js) (suc i.1) ≡ true = rw (in_range-true j.0 j.1 (suc i.1) (omega arith) (omega arith)) refl in
    let y : in_intervals (i ∷ is) (suc i.1) ≡ false = rw (out_high i.0 i.1 (suc i.1) (omega arith)) (below_rest i is a (suc i.1) (omega arith)) in
    true≢false (sym x ∙ sym (same (suc i.1)) ∙ y)

pub one_set : (s t : Intervals) → AreCanonicalIntervals s → AreCanonicalIntervals t → ((c : ℕ) → in_intervals s c ≡ in_intervals t c) → s ≡ t
one_set [] [] a b same = refl
one_set [] (j ∷ js) a b same = absurd (true≢false (sym (at_first j js b) ∙ sym (same j.0)))
one_set (i ∷ is) [] a b same = absurd (true≢false (sym (at_first i is a) ∙ same i.0))
one_set (i ∷ is) (j ∷ js) a b same =
    let low : i.0 ≡ j.0 = lows in
    let high : i.1 ≡ j.1 = highs (cases_lt i.1 j.1) in
    ap₂ (λ x y. x ∷ y) (ap₂ (λ x y. (x, y)) low high) (one_set is js (rest_apart i is a) (rest_apart j js b) (λ c. tails c high (cases_lt i.1 c)))
  where
    lows : i.0 ≡ j.0
    lows =
        let x : j.0 ≤ i.0 = least j js b i.0 (sym (same i.0) ∙ at_first i is a) in
        let y : i.0 ≤ j.0 = least i is a j.0 (same j.0 ∙ at_first j js b) in omega arith

    highs : (i.1 < j.1) ⊎ (j.1 ≤ i.1) → i.1 ≡ j.1
    highs (inl f) = absurd (no_longer i j is js a lows same f)
    highs (inr f) = more (cases_lt j.1 i.1) f
      where
        more : (j.1 < i.1) ⊎ (i.1 ≤ j.1) → j.1 ≤ i.1 → i.1 ≡ j.1
        more (inl g) f = absurd (no_longer j i js is b (sym lows) (λ c. sym (same c)) g)
        more (inr g) f = omega arith

    tails : (c : ℕ) → i.1 ≡ j.1 → (i.1 < c) ⊎ (c ≤ i.1) → in_intervals is c ≡ in_intervals js c
    tails c e (inl f) =
        let x : in_intervals (i ∷ is) c ≡ in_intervals is c = rw (out_high i.0 i.1 c f) refl in
        let y : in_intervals (j ∷ js) c ≡ in_intervals js c = rw (out_high j.0 j.1 c (omega arith)) refl in
        sym x ∙ same c ∙ y
    tails c e (inr f) = below_rest i is a c (omega arith) ∙ sym (below_rest j js b c (omega arith))
