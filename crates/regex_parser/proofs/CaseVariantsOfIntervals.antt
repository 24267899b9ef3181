-- A loop over the intervals of a set adds the characters that match their members.
use Rattle.std.proofs.Common.{◌≡◌, ◌⊎◌, ℕ, zero, suc, ◌+◌, ◌<◌, Bool, true, false, ◌||◌, List, [], ◌∷◌, ◌++◌, map, take, length, get_or, refl, sym, ap, ◌∙◌, arith, inl, inr, ⊎_elim, true≢false}
use Rattle.std.proofs.Common.{nat_eq, eq-eqb, eqb-true}
use Rattle.std.specs.Prelude.{IsTrue}
use Rattle.std.specs.Int.{is_in_range}
use Rattle.std.proofs.lemmas.Bool.{or_left, or_right, or_cases}
use Rattle.ucd_case.specs.CaseFolding.{fold_pairs}
use Rattle.ucd_case.proofs.FoldPairsLemmas.{IsFoldPairs-fold_pairs}
use Rattle.regex_meaning.specs.NumberListHelpers.{contains}
use Rattle.regex_meaning.specs.Outcomes.{in_intervals}
use Rattle.regex_meaning.specs.CharacterClasses.{single_code_point_interval}
use Rattle.regex_pattern_front.specs.Intervals.{interval_of}
use Rattle.regex_parser.specs.ClassReaderContracts.{is_in_any_interval}
use Rattle.regex_parser.specs.CaseVariantContracts.{is_between, MatchesSome, AddsMatchingCharacters}
use Rattle.regex_pattern_front.specs.declared.codepointset.Interval.{Interval}
use Rattle.regex_parser.proofs.LetterCaseClosureLemmas.{in_append, in_ones}
use Rattle.regex_parser.proofs.CaseVariantLemmas.{folds-alike, chosen, Chosen, chosen-have, chosen-from}

module _ (unicode : Bool) (test : ℕ → Bool) where
  -- Appending the numbers chosen from the fold pairs adds all that match one that passes the test.
  pub chosen-added : (old new : List Interval) → map interval_of new ≡ map interval_of old ++ map single_code_point_interval (chosen unicode test fold_pairs) → AddsMatchingCharacters unicode test old new
  chosen-added old new e = record {
    sound = λ d h. ⊎_elim (λ k. inl k) (λ k. inr (some d (chosen-from unicode test fold_pairs d k))) (or_cases (is_in_any_interval old d) _ (sym (holds d) ∙ h));
    kept = λ d h. holds d ∙ or_left (is_in_any_interval old d) _ h;
    complete = λ d h. by d h (nat_eq h.0 d) refl;
  }
    where
      some : (d : ℕ) → Chosen unicode test fold_pairs d → MatchesSome unicode test d
      some d (a, h, t, e) = (a, t, e)

      holds : (d : ℕ) → is_in_any_interval new d ≡ (is_in_any_interval old d || contains (chosen unicode test fold_pairs) d)
      holds d =
          ap (λ x. in_intervals x d) e ∙ in_append (map interval_of old) (map single_code_point_interval (chosen unicode test fold_pairs)) d
          ∙ ap (λ x. is_in_any_interval old d || x) (in_ones (chosen unicode test fold_pairs) d)

      by : (d : ℕ) (h : MatchesSome unicode test d) → (b : Bool) → nat_eq h.0 d ≡ b → IsTrue (test d) ⊎ IsTrue (is_in_any_interval new d)
      by d h true f = inl (sym (ap test (eqb-true h.0 d f)) ∙ h.1)
      by d h false f =
          inr (holds d ∙ or_right (is_in_any_interval old d) _
          (chosen-have unicode test fold_pairs h.0 d ((IsFoldPairs-fold_pairs h.0 d).1 (λ k. true≢false (sym (eq-eqb h.0 d k) ∙ f), folds-alike unicode h.0 d h.2)) h.1 h.2))

-- ---- One interval after another

pub adds-none : (unicode : Bool) (test : ℕ → Bool) (old : List Interval) → ((c : ℕ) → test c ≡ false) → AddsMatchingCharacters unicode test old old
adds-none unicode test old none = record {
  sound = λ d h. inl h;
  kept = λ d h. h;
  complete = λ d h. absurd (true≢false (sym h.1 ∙ none h.0));
}

pub adds-more : (unicode : Bool) (test more both : ℕ → Bool) (old middle new : List Interval) → ((c : ℕ) → both c ≡ (test c || more c))
    → AddsMatchingCharacters unicode test old middle → AddsMatchingCharacters unicode more middle new → AddsMatchingCharacters unicode both old new
adds-more unicode test more both old middle new joins a b = record {
  sound = λ d h. ⊎_elim (λ k. ⊎_elim (λ l. inl l) (λ l. inr (l.0, joins l.0 ∙ or_left (test l.0) _ l.1, l.2)) (a.sound d k)) (λ k. inr (k.0, joins k.0 ∙ or_right (test k.0) _ k.1, k.2)) (b.sound d h);
  kept = λ d h. b.kept d (a.kept d h);
  complete = λ d h. ⊎_elim
      (λ k. ⊎_elim (λ l. inl (joins d ∙ or_left (test d) _ l)) (λ l. inr (b.kept d l)) (a.complete d (h.0, k, h.2)))
      (λ k. ⊎_elim (λ l. inl (joins d ∙ or_right (test d) _ l)) (λ l. inr l) (b.complete d (h.0, k, h.2)))
      (or_cases (test h.0) _ (sym (joins h.0) ∙ h.1));
}

pub in-next : (is : List Interval) (n : ℕ) (d : Interval) → n < length is → (c : ℕ)
    → in_intervals (take (n + 1) (map interval_of is)) c ≡ (in_intervals (take n (map interval_of is)) c || is_between (get_or is n d).first (get_or is n d).last c)
in-next [] n d l c = absurd (omega (arith, l))
in-next (i ∷ is) zero d l c = or-false (is_in_range i.first i.last c)
  where
    or-false : (b : Bool) → (b || false) ≡ b
    or-false true = refl
    or-false false = refl
in-next (i ∷ is) (suc n) d l c =
    let next : suc n + 1 ≡ suc (n + 1) = omega arith in
    ap (λ m. in_intervals (take m (map interval_of (i ∷ is))) c) next
    ∙ ap (λ b. is_in_range i.first i.last c || b) (in-next is n d (omega (arith, l)) c)
    ∙ or-assoc (is_in_range i.first i.last c) (in_intervals (take n (map interval_of is)) c) _
  where
    or-assoc : (a b x : Bool) → (a || (b || x)) ≡ ((a || b) || x)
    or-assoc true b x = refl
    or-assoc false b x = refl

pub in-next-of : (is : List Interval) (set : List (ℕ × ℕ)) (n : ℕ) (d : Interval) → map interval_of is ≡ set → n < length is → (c : ℕ)
    → in_intervals (take (n + 1) set) c ≡ (in_intervals (take n set) c || is_between (get_or is n d).first (get_or is n d).last c)
in-next-of is set n d e l c =
    ap (λ s. in_intervals (take (n + 1) s) c) (sym e) ∙ in-next is n d l c ∙ ap (λ s. in_intervals (take n s) c || is_between (get_or is n d).first (get_or is n d).last c) e
