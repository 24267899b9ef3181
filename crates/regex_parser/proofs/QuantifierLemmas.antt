-- The quantifier reader reads the quantifiers that the grammar specifies.
use Rattle.std.proofs.Common.{◌≡◌, ℕ, ◌-◌, ◌^◌, inl, inr, Bool, true, false, ◌∷◌, true≢false, refl, sym, ap, ap₂, subst, ◌∙◌, Some, None}
use Rattle.std.specs.Prelude.{Option, not}
use Rattle.regex_meaning.specs.Tree.{Quantifier}
use Rattle.regex_meaning.specs.WellFormedTrees.{is_min_at_most_max}
use Rattle.regex_meaning.specs.ReadingStatesAndDigits.{RemainingCodePoints, Digits}
use Rattle.regex_meaning.specs.EscapesNamesQuantifiers.{saturated_count, QuantifierPrefix, star, plus, question, exactly, at_least, between, BeginsQuantifier, ValidQuantifier, greedy, lazy}
use Rattle.regex_meaning.proofs.DisjunctionReadingLemmas.{unlike}
use Rattle.regex_meaning.proofs.EscapesAndNamesLemmas.{behind, firsts, digits_on, one_prefix, no_digit}
use Rattle.regex_parser.specs.CodePointReaderContracts.{IsEaten, IsNumberRead, IsQuantifierMaximumRead}
use Rattle.regex_parser.proofs.NumberReaderLemmas.{no_sign, no-number}

-- A minimum, a maximum and a closing brace behind `{` make a quantifier prefix.
pub counts-all : {here middle t there : RemainingCodePoints} {least : ℕ} {most : Option ℕ} → IsNumberRead 10 (2 ^ 64 - 1) here (Some least) middle
    → IsQuantifierMaximumRead least middle most t → t ≡ 125 ∷ there → QuantifierPrefix (123 ∷ here) there least most
counts-all {here} {middle} {t} {there} {least} {most} n (inl m) e =
    let q : QuantifierPrefix (123 ∷ here) there (saturated_count n.0) (Some (saturated_count n.0)) = exactly refl n.1 (sym m.1 ∙ e) in
    rw (m.0, n.2) q
counts-all {here} {there = there} {most = None} n (inr m) e =
    let q : QuantifierPrefix (123 ∷ here) there (saturated_count n.0) None = at_least refl n.1 (m.1 ∙ ap (λ x. 44 ∷ x) (sym m.2.0 ∙ e)) in
    rw n.2 q
counts-all {here} {there = there} {most = Some k} n (inr m) e =
    let q : QuantifierPrefix (123 ∷ here) there (saturated_count n.0) (Some (saturated_count m.2.0)) = between refl n.1 m.1 m.2.1 e in
    rw (n.2, m.2.2) q

-- Counts that no closing brace follows begin no quantifier.
pub counts-none : {here middle t : RemainingCodePoints} {least : ℕ} {most : Option ℕ} → IsNumberRead 10 (2 ^ 64 - 1) here (Some least) middle
    → IsQuantifierMaximumRead least middle most t → ((rest : RemainingCodePoints) → t ≡ 125 ∷ rest → ⊥) → ¬ (BeginsQuantifier (123 ∷ here))
counts-none {here} {middle} {t} {least} {most} n m none q = by refl q.3 m
  where
    from_comma : {rest c there : RemainingCodePoints} {k : ℕ} → Digits 10 rest c k → c ≡ 125 ∷ there → IsNumberRead 10 (2 ^ 64 - 1) rest most t → ⊥
    from_comma {rest = rest} d e r = go most r
      where
        go : (most : Option ℕ) → IsNumberRead 10 (2 ^ 64 - 1) rest most t → ⊥
        go None r = no-number d r.1
        go (Some k) r = none _ (sym (digits_on refl d r.1).0 ∙ e)

    by : {p there : RemainingCodePoints} {a : ℕ} {b : Option ℕ} → p ≡ 123 ∷ here → QuantifierPrefix p there a b → IsQuantifierMaximumRead least middle most t → ⊥
    by s (star e) m = unlike 123 42 refl (firsts s e)
    by s (plus e) m = unlike 123 43 refl (firsts s e)
    by s (question e) m = unlike 123 63 refl (firsts s e)
    by s (exactly e d f) (inl m) = none _ (m.1 ∙ sym (digits_on (behind e s) d n.1).0 ∙ f)
    by s (exactly e d f) (inr m) = unlike 125 44 refl (firsts (sym (digits_on (behind e s) d n.1).0 ∙ f) m.1)
    by s (at_least e d f) (inl m) = m.2 _ (sym (digits_on (behind e s) d n.1).0 ∙ f)
    by s (at_least e d f) (inr m) = end_here most (behind m.1 (sym (digits_on (behind e s) d n.1).0 ∙ f)) m.2
      where
        end_here : (most : Option ℕ) {rest there : RemainingCodePoints} → rest ≡ 125 ∷ there → IsNumberRead 10 (2 ^ 64 - 1) rest most t → ⊥
        end_here None e r = none _ (r.0 ∙ e)
        end_here (Some k) e r = no_digit r.1 e
    by s (between e d f g i) (inl m) = m.2 _ (sym (digits_on (behind e s) d n.1).0 ∙ f)
    by s (between {d = x} {m = k} e d f g i) (inr m) =
        let same = behind (sym (digits_on (behind e s) d n.1).0 ∙ f) m.1 in
        from_comma (subst (λ y. Digits 10 y x k) same g) i m.2

-- A prefix whose minimum is above its maximum makes no valid quantifier.
pub no_order : {here a end : RemainingCodePoints} {least : ℕ} {most : Option ℕ} {q : Quantifier} → QuantifierPrefix here a least most
    → is_min_at_most_max (record { min = least; max = most; greedy = false }) ≡ false → ValidQuantifier here end q → ⊥
no_order p e (greedy h f o) = let s = one_prefix p h in true≢false (sym o ∙ sym (ap₂ (λ x y. is_min_at_most_max (record { min = x; max = y; greedy = false })) s.1 s.2) ∙ e)
no_order p e (lazy h f o) = let s = one_prefix p h in true≢false (sym o ∙ sym (ap₂ (λ x y. is_min_at_most_max (record { min = x; max = y; greedy = false })) s.1 s.2) ∙ e)

pub make_quantified : {here a end : RemainingCodePoints} {least : ℕ} {most : Option ℕ} (lazily : Bool) → QuantifierPrefix here a least most
    → is_min_at_most_max (record { min = least; max = most; greedy = false }) ≡ true → IsEaten 63 a lazily end
    → ValidQuantifier here end (record { min = least; max = most; greedy = not lazily })
make_quantified {a = a} true p o e = lazy p e o
make_quantified {a = a} false p o e = rw e.0 (greedy p (no_sign "?" 63 refl a e.1) o)
