-- A loop over the gaps of a set adds the characters in them that match a member of the set.
use Rattle.std.proofs.Common.{◌≡◌, ◌⊎◌, ℕ, zero, suc, ◌≤◌, Bool, true, false, not, ◌&&◌, ◌||◌, List, [], ◌∷◌, ◌++◌, map, filter, take, length, Contains, refl, sym, ap, ap₂, subst, ◌∙◌, arith, inl}
use Rattle.std.proofs.Common.{inr, ⊎_elim, true≢false, nat_le, nat_eq, eq-eqb, eqb-true}
use Rattle.std.specs.Prelude.{IsTrue, if◌then◌else◌}
use Rattle.std.proofs.lemmas.Bool.{and_parts, or_left, or_right, or_cases}
use Rattle.ucd_case.specs.CaseFolding.{fold_pairs}
use Rattle.ucd_case.specs.FoldOtherRows.{fold_other_rows}
use Rattle.ucd_case.proofs.FoldPairsLemmas.{IsFoldPairs-fold_pairs}
use Rattle.regex_meaning.specs.NumberListHelpers.{contains}
use Rattle.regex_meaning.specs.Outcomes.{in_intervals}
use Rattle.regex_meaning.specs.CharacterClasses.{single_code_point_interval}
use Rattle.regex_pattern_front.specs.Intervals.{interval_of}
use Rattle.regex_parser.specs.ClassReaderContracts.{is_in_any_interval}
use Rattle.regex_parser.specs.CaseVariantContracts.{match_each_other, firsts_that_match, MatchesSome, AddsMatchingCharacters, AddsMatchingWithin}
use Rattle.regex_pattern_front.specs.declared.codepointset.Interval.{Interval}
use Rattle.regex_parser.proofs.LetterCaseClosureLemmas.{in_append, in_ones}
use Rattle.regex_parser.proofs.CaseVariantLemmas.{folds-alike}

turned : (unicode : Bool) (c d : ℕ) → match_each_other unicode c d ≡ true → match_each_other unicode d c ≡ true
turned unicode c d e = eq-eqb _ _ (sym (eqb-true _ _ e))

-- ---- One gap

module _ (unicode : Bool) (test inside : ℕ → Bool) where
  -- `nearby` lists the first numbers, inside the gap, of matching pairs whose second passes.
  abbrev nearby : List (ℕ × ℕ) → List ℕ
  nearby ps = firsts_that_match unicode test (filter (λ (p : ℕ × ℕ). inside p.0) ps)

  abbrev passes : ℕ × ℕ → Bool
  passes p = test p.1 && match_each_other unicode p.0 p.1

  abbrev joined : (first match : Bool) → ℕ → List ℕ → List ℕ
  joined first match x xs = if first then (if match then x ∷ xs else xs) else xs

  nearby-more : (p : ℕ × ℕ) (ps : List (ℕ × ℕ)) → nearby (p ∷ ps) ≡ joined (inside p.0) (passes p) p.0 (nearby ps)
  nearby-more p ps = by (inside p.0) refl (passes p) refl
    where
      by : (b : Bool) → inside p.0 ≡ b → (m : Bool) → passes p ≡ m → nearby (p ∷ ps) ≡ joined b m p.0 (nearby ps)
      by false e m f = rw e refl
      by true e true f = rw (e, f) refl
      by true e false f = rw (e, f) refl

  nearby-have : (ps : List (ℕ × ℕ)) (d a : ℕ) → Contains {X = ℕ × ℕ} ps (d, a) → inside d ≡ true → passes (d, a) ≡ true → contains (nearby ps) d ≡ true
  nearby-have [] d a (k, l, at) i e = absurd (omega (arith, l))
  nearby-have (p ∷ ps) d a (zero, l, at) i e =
      subst (λ xs. contains xs d ≡ true) (sym (nearby-more p ps ∙ ap₂ (λ b m. joined b m p.0 (nearby ps)) (ap (λ (x : ℕ × ℕ). inside x.0) at ∙ i) (ap passes at ∙ e)))
      (or_left (nat_eq d p.0) _ (eq-eqb d p.0 (sym (ap (λ (x : ℕ × ℕ). x.0) at))))
  nearby-have (p ∷ ps) d a (suc k, l, at) i e =
      subst (λ xs. contains xs d ≡ true) (sym (nearby-more p ps)) (by (inside p.0) (passes p) (nearby-have ps d a (k, omega (arith, l), at) i e))
    where
      by : (b m : Bool) → contains (nearby ps) d ≡ true → contains (joined b m p.0 (nearby ps)) d ≡ true
      by true true g = or_right (nat_eq d p.0) _ g
      by true false g = g
      by false m g = g

  nearby-from : (ps : List (ℕ × ℕ)) (d : ℕ) → contains (nearby ps) d ≡ true → (a : ℕ) × (passes (d, a) ≡ true)
  nearby-from [] d e = absurd (true≢false (sym e))
  nearby-from (p ∷ ps) d e = by (inside p.0) (passes p) refl (nearby-from ps d) (subst (λ xs. contains xs d ≡ true) (nearby-more p ps) e)
    where
      by : (b m : Bool) → passes p ≡ m → (contains (nearby ps) d ≡ true → (a : ℕ) × (passes (d, a) ≡ true)) → contains (joined b m p.0 (nearby ps)) d ≡ true
          → (a : ℕ) × (passes (d, a) ≡ true)
      by true true g later h =
          ⊎_elim (λ k. (p.1, ap (λ (x : ℕ). passes (x, p.1)) (eqb-true d p.0 k) ∙ g)) later (or_cases (nat_eq d p.0) _ h)
      by true false g later h = later h
      by false m g later h = later h

  -- Appending the numbers of `nearby` adds all numbers inside that match one that passes the test.
  pub nearby-added : (old new : List Interval) → map interval_of new ≡ map interval_of old ++ map single_code_point_interval (nearby fold_pairs)
      → AddsMatchingWithin unicode test inside old new
  nearby-added old new e = record {
    sound = λ d h. ⊎_elim (λ k. inl k) (λ k. inr (some d (nearby-from fold_pairs d k))) (or_cases (is_in_any_interval old d) _ (sym (holds d) ∙ h));
    kept = λ d h. holds d ∙ or_left (is_in_any_interval old d) _ h;
    complete = λ d i h. by d i h (nat_eq d h.0) refl;
  }
    where
      some : (d : ℕ) → (a : ℕ) × (passes (d, a) ≡ true) → MatchesSome unicode test d
      some d (a, k) = let both = and_parts (test a) (match_each_other unicode d a) k in (a, both.0, turned unicode d a both.1)

      holds : (d : ℕ) → is_in_any_interval new d ≡ (is_in_any_interval old d || contains (nearby fold_pairs) d)
      holds d =
          ap (λ x. in_intervals x d) e ∙ in_append (map interval_of old) (map single_code_point_interval (nearby fold_pairs)) d
          ∙ ap (λ x. is_in_any_interval old d || x) (in_ones (nearby fold_pairs) d)

      by : (d : ℕ) → inside d ≡ true → (h : MatchesSome unicode test d) → (b : Bool) → nat_eq d h.0 ≡ b → IsTrue (test d) ⊎ IsTrue (is_in_any_interval new d)
      by d i h true f = inl (ap test (eqb-true d h.0 f) ∙ h.1)
      by d i h false f =
          let m = turned unicode h.0 d h.2 in
          inr (holds d ∙ or_right (is_in_any_interval old d) _
          (nearby-have fold_pairs d h.0 ((IsFoldPairs-fold_pairs d h.0).1 (λ k. true≢false (sym (eq-eqb d h.0 k) ∙ f), folds-alike unicode d h.0 m)) i (rw (h.1, m) refl)))

-- ---- One gap after another

pub within-none : (unicode : Bool) (test inside : ℕ → Bool) (old : List Interval) → ((c : ℕ) → inside c ≡ false) → AddsMatchingWithin unicode test inside old old
within-none unicode test inside old none = record {
  sound = λ d h. inl h;
  kept = λ d h. h;
  complete = λ d i h. absurd (true≢false (sym i ∙ none d));
}

pub within-more : (unicode : Bool) (test inside more both : ℕ → Bool) (old middle new : List Interval) → ((c : ℕ) → both c ≡ (inside c || more c))
    → AddsMatchingWithin unicode test inside old middle → AddsMatchingWithin unicode test more middle new → AddsMatchingWithin unicode test both old new
within-more unicode test inside more both old middle new joins a b = record {
  sound = λ d h. ⊎_elim (λ k. a.sound d k) (λ k. inr k) (b.sound d h);
  kept = λ d h. b.kept d (a.kept d h);
  complete = λ d i h. ⊎_elim (λ k. ⊎_elim (λ l. inl l) (λ l. inr (b.kept d l)) (a.complete d k h)) (λ k. b.complete d k h) (or_cases (inside d) _ (sym (joins d) ∙ i));
}

-- ---- All gaps

bounded : List (ℕ × ℕ) → Bool
bounded [] = true
bounded (p ∷ ps) = nat_le p.0 0x10FFFF && bounded ps

pairs-bounded : bounded fold_pairs ≡ true
unfolding fold_pairs fold_other_rows bounded
pairs-bounded = refl

first-bounded : (ps : List (ℕ × ℕ)) (c d : ℕ) → bounded ps ≡ true → Contains {X = ℕ × ℕ} ps (c, d) → nat_le c 0x10FFFF ≡ true
unfolding bounded
first-bounded [] c d h (k, l, at) = absurd (omega (arith, l))
first-bounded (p ∷ ps) c d h (zero, l, at) = ap (λ (x : ℕ × ℕ). nat_le x.0 0x10FFFF) (sym at) ∙ (and_parts (nat_le p.0 0x10FFFF) (bounded ps) h).0
first-bounded (p ∷ ps) c d h (suc k, l, at) = first-bounded ps c d (and_parts (nat_le p.0 0x10FFFF) (bounded ps) h).1 (k, omega (arith, l), at)

within-gaps : (unicode : Bool) (test outside : ℕ → Bool) (old new : List Interval) → ((c : ℕ) → outside c ≡ (nat_le c 0x10FFFF && not (test c)))
    → AddsMatchingWithin unicode test outside old new → AddsMatchingCharacters unicode test old new
within-gaps unicode test outside old new gaps a = record { sound = a.sound; kept = a.kept; complete = λ d h. by d h (nat_eq d h.0) refl (test d) refl }
  where
    by : (d : ℕ) (h : MatchesSome unicode test d) → (b : Bool) → nat_eq d h.0 ≡ b → (t : Bool) → test d ≡ t → IsTrue (test d) ⊎ IsTrue (is_in_any_interval new d)
    by d h b f true e = inl e
    by d h true f false e = inl (ap test (eqb-true d h.0 f) ∙ h.1)
    by d h false f false e =
        let pair = (IsFoldPairs-fold_pairs d h.0).1 (λ k. true≢false (sym (eq-eqb d h.0 k) ∙ f), folds-alike unicode d h.0 (turned unicode h.0 d h.2)) in
        a.complete d (gaps d ∙ rw (first-bounded fold_pairs d h.0 pairs-bounded pair, e) refl) h

all-taken : (items : List Interval) (n : ℕ) → length items ≤ n → take n (map interval_of items) ≡ map interval_of items
all-taken [] zero l = refl
all-taken [] (suc n) l = refl
all-taken (i ∷ is) zero l = absurd (omega (arith, l))
all-taken (i ∷ is) (suc n) l = ap (λ xs. interval_of i ∷ xs) (all-taken is n (omega (arith, l)))

pub within-all : (unicode : Bool) (set outside : List (ℕ × ℕ)) (items : List Interval) (n : ℕ) (old new : List Interval) → map interval_of items ≡ outside → length items ≤ n
    → ((c : ℕ) → in_intervals outside c ≡ (nat_le c 0x10FFFF && not (in_intervals set c)))
    → AddsMatchingWithin unicode (in_intervals set) (in_intervals (take n (map interval_of items))) old new → AddsMatchingCharacters unicode (in_intervals set) old new
within-all unicode set outside items n old new e l gaps a =
    within-gaps unicode (in_intervals set) (in_intervals (take n (map interval_of items))) old new (λ c. ap (λ x. in_intervals x c) (all-taken items n l ∙ e) ∙ gaps c) a
