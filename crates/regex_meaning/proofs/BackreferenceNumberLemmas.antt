-- The number of a backreference is positive, and the number of a name is that of a group.
use Rattle.std.proofs.Common.{◌≡◌, ℕ, zero, suc, ◌+◌, ◌*◌, ◌<◌, ◌≤◌, Bool, true, false, List, [], ◌∷◌, length, nat_eq, true≢false, refl, sym, subst, ◌∙◌, arith, Some, None}
use Rattle.std.specs.Prelude.{Option, fold}
use Rattle.std.specs.Char.{is_digit, digit_value}
use Rattle.std.proofs.lemmas.Bool.{eq-eqb, ltb-true}
use Rattle.std.proofs.lemmas.List.Sums.{take_while-cons}
use Rattle.std.proofs.lemmas.Str.{digit_value_digit}
use Rattle.std.proofs.lemmas.Str.Parse.{digit_from_value}
use lib.Pointwise.{pointwise}
use Rattle.regex_meaning.specs.ReadingStatesAndDigits.{RemainingCodePoints, begins_with_characters, Digits, digits_from, leading_digits, value_of_digits, group_number_of}
use Rattle.regex_meaning.proofs.EscapesAndNamesLemmas.{Some_inj}
use Rattle.regex_meaning.proofs.FirstDigitOfNumber.{digit_begins}

-- ---- Numbers

pub grows : (n : ℕ) (ds : RemainingCodePoints) → 0 < n → 0 < fold (λ n c. 10 * n + digit_value c) n ds
grows n [] h = h
grows n (d ∷ ds) h = grows (10 * n + digit_value d) ds (omega arith)

positive : (c : ℕ) → (48 ≡ c → ⊥) → is_digit c 10 ≡ true → 0 < digit_value c
positive c other d = let v : digit_value c + 48 ≡ c = digit_value_digit c (digit_from_value c (ltb-true _ _ d)) in by (digit_value c) v
  where
    by : (n : ℕ) → n + 48 ≡ c → 0 < n
    by zero e = absurd (other (omega (arith, e)))
    by (suc n) e = omega arith

pub number-positive : {here there : RemainingCodePoints} {n : ℕ} → begins_with_characters "0" here ≡ false → Digits 10 here there n → 0 < n
number-positive {here = []} e (digits_from k) = absurd (omega arith)
number-positive {here = c ∷ cs} e (digits_from k) =
    let d : is_digit c 10 ≡ true = digit_begins {base = 10} {here = c ∷ cs} (digits_from k) in
    let same : leading_digits 10 (c ∷ cs) ≡ c ∷ leading_digits 10 cs = take_while-cons (λ x. is_digit x 10) c cs ∙ rw d refl in
    let p : 0 < digit_value c = positive c (λ f. true≢false (sym (rw (eq-eqb 48 c f) refl) ∙ e)) d in
    subst (λ x. 0 < value_of_digits 10 x) (sym same) (grows (10 * 0 + digit_value c) (leading_digits 10 cs) (omega arith))

-- ---- Names

pub number_of-bounds : (name : RemainingCodePoints) (groups : List RemainingCodePoints) (n : ℕ) → group_number_of name groups ≡ Some n → (0 < n) × (n ≤ length groups)
number_of-bounds name [] n e = absurd cc
number_of-bounds name (o ∷ groups) n e = by (λ m f. number_of-bounds name groups m f) (pointwise nat_eq name o) refl (group_number_of name groups) refl
  where
    by : ((m : ℕ) → group_number_of name groups ≡ Some m → (0 < m) × (m ≤ length groups)) → (b : Bool) → pointwise nat_eq name o ≡ b
        → (m : Option ℕ) → group_number_of name groups ≡ m → (0 < n) × (n ≤ length (o ∷ groups))
    by h true f m g =
        let k : Some 1 ≡ group_number_of name (o ∷ groups) = rw f refl in
        let one : 1 ≡ n = Some_inj (k ∙ e) in (omega (arith, one), omega (arith, one))
    by h false f None g = let k : None ≡ group_number_of name (o ∷ groups) = rw (f, g) refl in let none : None ≡ Some n = k ∙ e in absurd cc
    by h false f (Some m) g =
        let k : Some (suc m) ≡ group_number_of name (o ∷ groups) = rw (f, g) refl in
        let more : suc m ≡ n = Some_inj (k ∙ e) in
        let b = h m g in (omega (arith, more), omega (arith, more, b.1))
