-- The loops that read numbers digit by digit compute the values that the grammar specifies.
use Rattle.std.proofs.Common.{◌≡◌, ℕ, ◌+◌, ◌-◌, ◌*◌, ◌<◌, ◌≤◌, Bool, true, false, [], ◌∷◌, ◌++◌, length, drop, min, refl, sym, ap, ap₂, subst, ◌∙◌, arith, append_assoc, inl, inr, Some, None, ◌^◌}
use Prim.Native.String.{String}
use Rattle.std.specs.Prelude.{codes, nat_eq}
use Rattle.std.specs.List.{list_all, starts_with}
use Rattle.std.specs.Char.{is_digit, digit_value}
use Rattle.std.specs.Int.{is_in_range}
use Rattle.std.proofs.lemmas.List.Sums.{fold-append, take_while-cons}
use Rattle.std.proofs.lemmas.List.Folds.{list_all-append}
use Rattle.std.proofs.lemmas.Bool.{cases_lt, and_parts, ltb-true, eqb-true}
use Rattle.std.proofs.Math.Nat.{mul-le-mul_left, mul-le-mul_right, mul_comm}
use Rattle.std.proofs.Math.Seq.{drop-append_seam}
use Rattle.std.proofs.lemmas.List.{length-append}
use Rattle.regex_meaning.specs.ReadingStatesAndDigits.{RemainingCodePoints, Digits, digits_from, leading_digits, value_of_digits, begins_with_characters}
use Rattle.regex_meaning.specs.EscapesNamesQuantifiers.{FixedHexDigits, hex}
use Rattle.regex_meaning.proofs.DisjunctionReadingLemmas.{rest_of}
use Rattle.regex_parser.specs.CodePointReaderContracts.{IsDigitRead, IsNumberRead}

pub nonzero_digit_bounds : (c : ℕ) → is_in_range 49 57 c ≡ true → (49 ≤ c) × (c ≤ 57)
nonzero_digit_bounds c e = (grind arith, grind arith)

-- No number is read where no digits are.
pub no-number : {here there : RemainingCodePoints} {n : ℕ} → Digits 10 here there n → leading_digits 10 here ≡ [] → ⊥
no-number (digits_from h) e = let k : 0 < length (leading_digits 10 []) = subst (λ x. 0 < length x) e h in omega arith

-- The text is the digits `ds` of the base, then the text `there`.
pub record HasDigits (base : ℕ) (here there ds : RemainingCodePoints) : Type 0 where
  pub is : here ≡ ds ++ there
  pub all : list_all (λ c. is_digit c base) ds ≡ true

no_digits : (base : ℕ) (here : RemainingCodePoints) → HasDigits base here here []
no_digits base here = record { is = refl; all = refl }

more_digits : (base : ℕ) {here a there ds : RemainingCodePoints} {c : ℕ} → HasDigits base here a ds → a ≡ c ∷ there → is_digit c base ≡ true
    → HasDigits base here there (ds ++ c ∷ [])
more_digits base {there = there} {ds = ds} {c = c} h e f = record {
  is = h.is ∙ ap (λ x. ds ++ x) e ∙ sym (append_assoc ds (c ∷ []) there);
  all = list_all-append (λ x. is_digit x base) ds (c ∷ []) ∙ rw (h.all, f) refl;
}

number-more : (base : ℕ) (ds : RemainingCodePoints) (c : ℕ) → value_of_digits base (ds ++ c ∷ []) ≡ base * value_of_digits base ds + digit_value c
number-more base ds c = fold-append (λ n d. base * n + digit_value d) 0 ds (c ∷ [])

digits-all : (base : ℕ) (ds there : RemainingCodePoints) → list_all (λ c. is_digit c base) ds ≡ true → leading_digits base there ≡ [] → leading_digits base (ds ++ there) ≡ ds
digits-all base [] there e f = f
digits-all base (c ∷ ds) there e f =
    let h = and_parts (is_digit c base) _ e in
    take_while-cons (λ c. is_digit c base) c (ds ++ there) ∙ rw h.0 (ap (λ x. c ∷ x) (digits-all base ds there h.1 f))

digits-here : (base : ℕ) {here there ds : RemainingCodePoints} → HasDigits base here there ds → leading_digits base there ≡ [] → 0 < length ds → Digits base here there (value_of_digits base ds)
digits-here base {here} {there} {ds} h f some =
    let same : leading_digits base here ≡ ds = ap (leading_digits base) h.is ∙ digits-all base ds there h.all f in
    let rest : drop (length (leading_digits base here)) here ≡ there = ap₂ (λ x y. drop (length x) y) same h.is ∙ drop-append_seam ds there in
    subst (λ x. Digits base here there (value_of_digits base x)) same
    (subst (λ x. Digits base here x (value_of_digits base (leading_digits base here))) rest
    (digits_from (let long : length (leading_digits base here) ≡ length ds = ap length same in omega arith)))

-- A text that does not begin with a sign does not begin with the word of that sign.
pub no_sign : (word : String) (sign : ℕ) → codes word ≡ sign ∷ [] → (here : RemainingCodePoints) → ((rest : RemainingCodePoints) → here ≡ sign ∷ rest → ⊥) → begins_with_characters word here ≡ false
no_sign word sign e here none = subst (λ w. starts_with nat_eq here w ≡ false) (sym e) (go here none)
  where
    go : (here : RemainingCodePoints) → ((rest : RemainingCodePoints) → here ≡ sign ∷ rest → ⊥) → starts_with nat_eq here (sign ∷ []) ≡ false
    go [] none = refl
    go (c ∷ cs) none = by (nat_eq sign c) refl
      where
        by : (b : Bool) → nat_eq sign c ≡ b → starts_with nat_eq (c ∷ cs) (sign ∷ []) ≡ false
        by true e = absurd (none cs (ap (λ (x : ℕ). x ∷ cs) (sym (eqb-true sign c e))))
        by false e = rw e refl

-- ---- Numbers that saturate at a greatest value

pub record NumberSoFar (base most : ℕ) (here : RemainingCodePoints) (value : ℕ) (there : RemainingCodePoints) : Type 0 where
  pub ds : RemainingCodePoints
  pub leading_digits : HasDigits base here there ds
  pub some : 0 < length ds
  pub value_is : value ≡ min (value_of_digits base ds) most

module _ (base most : ℕ) (some : 1 ≤ base) (fits : base ≤ most) where
  -- Adding a digit to a saturated number gives the saturated number with that digit.
  step : (n d : ℕ) → min (min (min n most * base) most + d) most ≡ min (base * n + d) most
  step n d = elim (cases_lt n most) [
    | inl told ↦
        let same : min n most ≡ n = omega (arith, told) in
        let occurrences_of_id : n * base ≡ base * n = mul_comm n base in
        rw same (omega (arith, occurrences_of_id))
    | inr untold ↦
        let same : min n most ≡ most = omega (arith, untold) in
        let more : most * 1 ≤ most * base = mul-le-mul_left most some in
        let past : most * base ≤ n * base = mul-le-mul_right base untold in
        let occurrences_of_id : n * base ≡ base * n = mul_comm n base in
        rw same (omega (arith, more, past, occurrences_of_id))
  ]

  pub number-first : (here there : RemainingCodePoints) (d : ℕ) → IsDigitRead base here (Some d) there → NumberSoFar base most here d there
  number-first here there d r =
      let c : ℕ = r.0 in
      let small : digit_value c < base = ltb-true _ _ r.2 in
      let zero_times : base * 0 ≡ 0 = omega arith in
      record {
        ds = c ∷ [];
        leading_digits = more_digits base {ds = []} (no_digits base here) r.1 r.2;
        some = omega arith;
        value_is = omega (arith, r.3);
      }

  pub number-next : (here middle there : RemainingCodePoints) (value d : ℕ) → NumberSoFar base most here value middle → IsDigitRead base middle (Some d) there
      → NumberSoFar base most here (min (min (value * base) most + d) most) there
  number-next here middle there value d s r = record {
    ds = s.ds ++ r.0 ∷ [];
    leading_digits = more_digits base s.leading_digits r.1 r.2;
    some = let long : length (s.ds ++ r.0 ∷ []) ≡ length s.ds + 1 = simp length-append in omega arith;
    value_is = rw (s.value_is, r.3, number-more base s.ds r.0) (step (value_of_digits base s.ds) (digit_value r.0));
  }

  pub number-end : (here middle there : RemainingCodePoints) (value : ℕ) → NumberSoFar base most here value middle → IsDigitRead base middle None there → IsNumberRead base most here (Some value) there
  number-end here middle there value s r =
      rw r.0 (value_of_digits base s.ds, digits-here base s.leading_digits r.1 s.some, s.value_is)

-- ---- Numbers with a fixed count of digits

pub record HexSoFar (count : ℕ) (here : RemainingCodePoints) (value : ℕ) (there : RemainingCodePoints) : Type 0 where
  pub ds : RemainingCodePoints
  pub leading_digits : HasDigits 16 here there ds
  pub long : length ds ≡ count
  pub value_is : value ≡ value_of_digits 16 ds
  pub small : (count ≤ 0 → value < 1) × (count ≤ 1 → value < 16) × (count ≤ 2 → value < 256) × (count ≤ 3 → value < 4096)

pub hex-none : (here : RemainingCodePoints) → HexSoFar 0 here 0 here
hex-none here = record { ds = []; leading_digits = no_digits 16 here; long = refl; value_is = refl; small = (λ h. omega arith, λ h. omega arith, λ h. omega arith, λ h. omega arith) }

pub hex-end : (count : ℕ) (here there : RemainingCodePoints) (value : ℕ) → HexSoFar count here value there → FixedHexDigits count here there value
hex-end count here there value s = subst (λ x. FixedHexDigits count here there x) (sym s.value_is) (hex s.ds s.leading_digits.is s.long s.leading_digits.all)

pub hex-next : (count : ℕ) (here middle there : RemainingCodePoints) (value d : ℕ) → count < 4 → HexSoFar count here value middle → IsDigitRead 16 middle (Some d) there
    → HexSoFar (count + 1) here (min (min (value * 16) (2 ^ 32 - 1) + d) (2 ^ 32 - 1)) there
hex-next count here middle there value d few s r =
    let digit : digit_value r.0 < 16 = ltb-true _ _ r.2 in
    let small : d < 16 = rw r.3 digit in
    let bound : value < 4096 = s.small.3 (omega arith) in
    let exact : min (min (value * 16) (2 ^ 32 - 1) + d) (2 ^ 32 - 1) ≡ 16 * value + d = omega arith in
    record {
      ds = s.ds ++ r.0 ∷ [];
      leading_digits = more_digits 16 s.leading_digits r.1 r.2;
      long = let e : length s.ds ≡ count = s.long in let long : length (s.ds ++ r.0 ∷ []) ≡ length s.ds + 1 = simp length-append in omega arith;
      value_is = exact ∙ rw (s.value_is, r.3) (sym (number-more 16 s.ds r.0));
      small = rw exact (
        λ h. absurd (omega arith),
        λ h. let k : value < 1 = s.small.0 (omega arith) in omega arith,
        λ h. let k : value < 16 = s.small.1 (omega arith) in omega arith,
        λ h. let k : value < 256 = s.small.2 (omega arith) in omega arith,
      );
    }

-- If fewer hex digits are read than needed and none follows, no number of that length is here.
pub hex-short : (count all : ℕ) (here there : RemainingCodePoints) (value : ℕ) → count < all → HexSoFar count here value there → leading_digits 16 there ≡ []
    → (end : RemainingCodePoints) (c : ℕ) → FixedHexDigits all here end c → ⊥
hex-short count all here there value less s none end c (hex ds e l t) = by s.ds ds (omega arith) (sym s.leading_digits.is ∙ e) t
  where
    by : (es ds : RemainingCodePoints) → length es < length ds → es ++ there ≡ ds ++ end → list_all (λ c. is_digit c 16) ds ≡ true → ⊥
    by [] [] k f t = omega arith
    by [] (d ∷ ds) k f t =
        let h = and_parts (is_digit d 16) _ t in
        let some : leading_digits 16 there ≡ d ∷ leading_digits 16 (ds ++ end) = ap (leading_digits 16) f ∙ take_while-cons (λ c. is_digit c 16) d (ds ++ end) ∙ rw h.0 refl in
        cc
    by (c ∷ es) [] k f t = absurd (omega arith)
    by (c ∷ es) (d ∷ ds) k f t = by es ds (omega arith) (ap rest_of f) (and_parts (is_digit d 16) _ t).1
