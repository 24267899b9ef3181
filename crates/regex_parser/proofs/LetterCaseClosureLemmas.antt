-- Adding the case variants of each letter from A to Z closes a set under case folding.
use Rattle.std.proofs.Common.{◌≡◌, ℕ, ◌+◌, ◌-◌, ◌<◌, ◌≤◌, ◌⊎◌, inl, inr, Bool, true, false, ◌&&◌, ◌||◌, List, [], ◌∷◌, ◌++◌, map, true≢false, ⊎_elim, nat_eq, refl, sym, ap, ap₂, subst, ◌∙◌, arith}
use Rattle.std.specs.Prelude.{if◌then◌else◌, ◌==◌}
use Rattle.std.specs.Int.{is_in_range}
use Rattle.std.specs.List.{list_any}
use Rattle.std.proofs.lemmas.Bool.{cases_lt, cases_eq, lt-leb, le-leb, ne_eqb, eq-eqb, eqb-true, or_cases, or_left, or_right, and_parts}
use Rattle.std.proofs.lemmas.List.Folds.{list_any-append}
use Rattle.regex_meaning.specs.NumberListHelpers.{contains}
use Rattle.regex_meaning.proofs.BoolLemmas.{same-truth}
use Rattle.regex_meaning.specs.Tree.{Intervals, Flags}
use Rattle.regex_meaning.specs.Outcomes.{in_intervals}
use Rattle.regex_meaning.specs.Text.{to_ascii_lowercase, to_ascii_uppercase, fold_code_point, nonascii_with_fold, code_points_with_fold, expand_code_point}
use Rattle.regex_meaning.specs.CharacterClasses.{single_code_point_interval, closed_under_case_folding}
use Rattle.regex_parser.specs.ClassReaderContracts.{letter_case_variants_if_any_passes, some_case_variant_passes}

-- ---- Letters

-- A number from `first` to `last` is moved to `moved`, and any other number stays.
abbrev Moves : (first last d moved there : ℕ) → Type 0
Moves first last d moved there = ((first ≤ d) × (d ≤ last) × (there ≡ moved)) ⊎ (((d < first) ⊎ (last < d)) × (there ≡ d))

moves : (first last d moved : ℕ) → Moves first last d moved (if is_in_range first last d then moved else d)
moves first last d moved =
    elim (cases_lt d first) [
      | inl low ↦ inr (inl low, rw (lt-leb first d low) refl)
      | inr h ↦
          elim (cases_lt last d) [
            | inl high ↦ inr (inr high, rw (le-leb first d h, lt-leb d last high) refl)
            | inr k ↦ inl (h, k, rw (le-leb first d h, le-leb d last k) refl)
          ]
    ]

abbrev UpperCases : ℕ → Type 0
UpperCases d = Moves 97 122 d (d - 32) (to_ascii_uppercase d)

abbrev LowerCases : ℕ → Type 0
LowerCases d = Moves 65 90 d (d + 32) (to_ascii_lowercase d)

pub upper_cases : (d : ℕ) → UpperCases d
upper_cases d = moves 97 122 d (d - 32)

pub lower_cases : (d : ℕ) → LowerCases d
lower_cases d = moves 65 90 d (d + 32)

-- `AnUpper f` states that `f` is no lower-case ASCII letter.
AnUpper : ℕ → Type 0
AnUpper f = (f < 97) ⊎ (122 < f)

an_upper : (c : ℕ) → AnUpper (to_ascii_uppercase c)
unfolding AnUpper
an_upper c =
    elim (upper_cases c) [
      | inl h ↦ let e : to_ascii_uppercase c ≡ c - 32 = h.2 in let l : c ≤ 122 = h.1 in inl (omega arith)
      | inr h ↦ subst AnUpper (sym h.1) h.0
    ]

two : (x y d : ℕ) → contains (x ∷ y ∷ []) d ≡ true → (d ≡ x) ⊎ (d ≡ y)
two x y d e = ⊎_elim (λ h. inl (eqb-true d x h)) (λ h. ⊎_elim (λ k. inr (eqb-true d y k)) (λ k. absurd (true≢false (sym k))) (or_cases (nat_eq d y) false h)) (or_cases (nat_eq d x) _ e)

only : (x d : ℕ) → contains (x ∷ []) d ≡ true → d ≡ x
only x d e = ⊎_elim (λ h. eqb-true d x h) (λ h. absurd (true≢false (sym h))) (or_cases (nat_eq d x) false e)

-- A number that two joined lists contain is contained in one of them.
either : (xs ys : List ℕ) (d : ℕ) → contains (xs ++ ys) d ≡ true → (contains xs d ≡ true) ⊎ (contains ys d ≡ true)
either xs ys d e = or_cases (contains xs d) (contains ys d) (sym (list_any-append (nat_eq d) xs ys) ∙ e)

-- `cases_of f` lists the upper and the lower case of `f`, once if they are equal.
cases_of : ℕ → List ℕ
cases_of f = if to_ascii_uppercase f == to_ascii_lowercase f then f ∷ [] else to_ascii_uppercase f ∷ to_ascii_lowercase f ∷ []

-- A number whose upper and lower case are equal is its own upper case.
one_case : (f : ℕ) → (to_ascii_uppercase f == to_ascii_lowercase f) ≡ true → to_ascii_uppercase f ≡ f
one_case f s = is (upper_cases f) (lower_cases f)
  where
    is : UpperCases f → LowerCases f → to_ascii_uppercase f ≡ f
    is (inl h) (inl k) = let a : 97 ≤ f = h.0 in let b : f ≤ 90 = k.1 in absurd (omega arith)
    is (inl h) (inr k) = eqb-true _ _ s ∙ k.1
    is (inr h) k = h.1

in_cases : (f d : ℕ) → contains (cases_of f) d ≡ true → (d ≡ to_ascii_uppercase f) ⊎ (d ≡ to_ascii_lowercase f)
unfolding cases_of
in_cases f d e = by (to_ascii_uppercase f == to_ascii_lowercase f) refl e
  where
    by : (b : Bool) → (to_ascii_uppercase f == to_ascii_lowercase f) ≡ b → contains (if b then f ∷ [] else to_ascii_uppercase f ∷ to_ascii_lowercase f ∷ []) d ≡ true
        → (d ≡ to_ascii_uppercase f) ⊎ (d ≡ to_ascii_lowercase f)
    by true s e = inl (only f d e ∙ sym (one_case f s))
    by false s e = two _ _ d e

-- The cases of a number contain its upper case and its lower case.
has_both : (f : ℕ) → (contains (cases_of f) (to_ascii_uppercase f) ≡ true) × (contains (cases_of f) (to_ascii_lowercase f) ≡ true)
unfolding cases_of
has_both f = by (to_ascii_uppercase f == to_ascii_lowercase f) refl
  where
    by : (b : Bool) → (to_ascii_uppercase f == to_ascii_lowercase f) ≡ b
        → (contains (if b then f ∷ [] else to_ascii_uppercase f ∷ to_ascii_lowercase f ∷ []) (to_ascii_uppercase f) ≡ true)
        × (contains (if b then f ∷ [] else to_ascii_uppercase f ∷ to_ascii_lowercase f ∷ []) (to_ascii_lowercase f) ≡ true)
    by true s = (
      or_left (nat_eq (to_ascii_uppercase f) f) _ (eq-eqb _ _ (one_case f s)),
      or_left (nat_eq (to_ascii_lowercase f) f) _ (eq-eqb _ _ (sym (eqb-true _ _ s) ∙ one_case f s)),
    )
    by false s = (
      or_left (nat_eq (to_ascii_uppercase f) (to_ascii_uppercase f)) _ (eq-eqb (to_ascii_uppercase f) _ refl),
      or_right (nat_eq (to_ascii_lowercase f) (to_ascii_uppercase f)) _ (or_left (nat_eq (to_ascii_lowercase f) (to_ascii_lowercase f)) _ (eq-eqb (to_ascii_lowercase f) _ refl)),
    )

with_fold : (unicode : Bool) (f : ℕ) → code_points_with_fold unicode f ≡ cases_of f ++ nonascii_with_fold unicode f
unfolding cases_of
with_fold unicode f = refl

-- ---- Folds of the code points with a given fold

-- With `unicode`, a code point other than U+017F and U+212A folds to its ASCII lower case.
fold_plain : (d : ℕ) → (d ≡ 0x017F → ⊥) → (d ≡ 0x212A → ⊥) → fold_code_point true d ≡ to_ascii_lowercase d
unfolding fold_code_point
fold_plain d a b = rw (ne_eqb d 0x017F a, ne_eqb d 0x212A b) refl

-- `ALower f` states that `f` is no upper-case ASCII letter, and neither U+017F nor U+212A.
ALower : ℕ → Type 0
ALower f = ((f < 65) ⊎ (90 < f)) × (f ≡ 0x017F → ⊥) × (f ≡ 0x212A → ⊥)

a_lower : (c : ℕ) → ALower (fold_code_point true c)
unfolding ALower fold_code_point
a_lower c =
    elim (cases_eq c 0x017F) [
      | inl e ↦ rw (eq-eqb c 0x017F e) (inr (omega arith), λ h. omega arith, λ h. omega arith)
      | inr ne ↦
          elim (cases_eq c 0x212A) [
            | inl e ↦ rw (ne_eqb c 0x017F ne, eq-eqb c 0x212A e) (inr (omega arith), λ h. omega arith, λ h. omega arith)
            | inr ne' ↦ rw (ne_eqb c 0x017F ne, ne_eqb c 0x212A ne')
                (elim (lower_cases c) [
                  | inl h ↦ let e : to_ascii_lowercase c ≡ c + 32 = h.2 in let l : 65 ≤ c = h.0 in let m : c ≤ 90 = h.1 in
                      (inr (omega arith), λ k. omega arith, λ k. omega arith)
                  | inr h ↦ let P : ℕ → Type 0 = λ f. ((f < 65) ⊎ (90 < f)) × (f ≡ 0x017F → ⊥) × (f ≡ 0x212A → ⊥) in subst P (sym h.1) (h.0, ne, ne')
                ])
          ]
    ]

upper_of_case : (f d : ℕ) → AnUpper f → (d ≡ to_ascii_uppercase f) ⊎ (d ≡ to_ascii_lowercase f) → to_ascii_uppercase d ≡ f
unfolding AnUpper
upper_of_case f d u h = by u (upper_cases f) (lower_cases f) (upper_cases d) h
  where
    by : (f < 97) ⊎ (122 < f) → ((97 ≤ f) × (f ≤ 122) × (to_ascii_uppercase f ≡ f - 32)) ⊎ (((f < 97) ⊎ (122 < f)) × (to_ascii_uppercase f ≡ f))
        → ((65 ≤ f) × (f ≤ 90) × (to_ascii_lowercase f ≡ f + 32)) ⊎ (((f < 65) ⊎ (90 < f)) × (to_ascii_lowercase f ≡ f))
        → ((97 ≤ d) × (d ≤ 122) × (to_ascii_uppercase d ≡ d - 32)) ⊎ (((d < 97) ⊎ (122 < d)) × (to_ascii_uppercase d ≡ d))
        → (d ≡ to_ascii_uppercase f) ⊎ (d ≡ to_ascii_lowercase f) → to_ascii_uppercase d ≡ f
    by (inl a) (inl h) l d' k = let x : 97 ≤ f = h.0 in absurd (omega arith)
    by (inr a) (inl h) l d' k = let x : f ≤ 122 = h.1 in absurd (omega arith)
    by u (inr h) l (inr e) (inl k) = e.1 ∙ k ∙ h.1
    by (inl a) (inr h) l (inl e) (inl k) = let x : 97 ≤ d = e.0 in let y : to_ascii_uppercase f ≡ f = h.1 in absurd (omega arith)
    by (inr a) (inr h) l (inl e) (inl k) = let x : d ≤ 122 = e.1 in let y : to_ascii_uppercase f ≡ f = h.1 in absurd (omega arith)
    by u (inr h) (inl l) (inl e) (inr k) = let x : to_ascii_uppercase d ≡ d - 32 = e.2 in let y : to_ascii_lowercase f ≡ f + 32 = l.2 in omega arith
    by u (inr h) (inl l) (inr (inl e, g)) (inr k) = let x : 65 ≤ f = l.0 in let y : to_ascii_lowercase f ≡ f + 32 = l.2 in absurd (omega arith)
    by u (inr h) (inl l) (inr (inr e, g)) (inr k) = let x : f ≤ 90 = l.1 in let y : to_ascii_lowercase f ≡ f + 32 = l.2 in absurd (omega arith)
    by (inl a) (inr h) (inr l) (inl e) (inr k) = let x : 97 ≤ d = e.0 in let y : to_ascii_lowercase f ≡ f = l.1 in absurd (omega arith)
    by (inr a) (inr h) (inr l) (inl e) (inr k) = let x : d ≤ 122 = e.1 in let y : to_ascii_lowercase f ≡ f = l.1 in absurd (omega arith)
    by u (inr h) (inr l) (inr e) (inr k) = e.1 ∙ k ∙ l.1

lower_of_case : (f d : ℕ) → ALower f → (d ≡ to_ascii_uppercase f) ⊎ (d ≡ to_ascii_lowercase f) → fold_code_point true d ≡ f
unfolding ALower
lower_of_case f d (u, a, b) h = by u (upper_cases f) (lower_cases f) (lower_cases d) h
  where
    plain : d ≡ f → fold_code_point true d ≡ to_ascii_lowercase d
    plain e = fold_plain d (λ k. a (sym e ∙ k)) (λ k. b (sym e ∙ k))

    by : (f < 65) ⊎ (90 < f) → ((97 ≤ f) × (f ≤ 122) × (to_ascii_uppercase f ≡ f - 32)) ⊎ (((f < 97) ⊎ (122 < f)) × (to_ascii_uppercase f ≡ f))
        → ((65 ≤ f) × (f ≤ 90) × (to_ascii_lowercase f ≡ f + 32)) ⊎ (((f < 65) ⊎ (90 < f)) × (to_ascii_lowercase f ≡ f))
        → ((65 ≤ d) × (d ≤ 90) × (to_ascii_lowercase d ≡ d + 32)) ⊎ (((d < 65) ⊎ (90 < d)) × (to_ascii_lowercase d ≡ d))
        → (d ≡ to_ascii_uppercase f) ⊎ (d ≡ to_ascii_lowercase f) → fold_code_point true d ≡ f
    by (inl x) h (inl l) d' k = let y : 65 ≤ f = l.0 in absurd (omega arith)
    by (inr x) h (inl l) d' k = let y : f ≤ 90 = l.1 in absurd (omega arith)
    by u h (inr l) (inr e) (inr k) = plain (k ∙ l.1) ∙ e.1 ∙ k ∙ l.1
    by u (inr h) (inr l) (inr e) (inl k) = plain (k ∙ h.1) ∙ e.1 ∙ k ∙ h.1
    by (inl x) h (inr l) (inl e) (inr k) = let y : 65 ≤ d = e.0 in let z : to_ascii_lowercase f ≡ f = l.1 in absurd (omega arith)
    by (inr x) h (inr l) (inl e) (inr k) = let y : d ≤ 90 = e.1 in let z : to_ascii_lowercase f ≡ f = l.1 in absurd (omega arith)
    by (inl x) (inr h) (inr l) (inl e) (inl k) = let y : 65 ≤ d = e.0 in let z : to_ascii_uppercase f ≡ f = h.1 in absurd (omega arith)
    by (inr x) (inr h) (inr l) (inl e) (inl k) = let y : d ≤ 90 = e.1 in let z : to_ascii_uppercase f ≡ f = h.1 in absurd (omega arith)
    by u (inl h) (inr l) (inl e) (inl k) =
        let x : to_ascii_uppercase f ≡ f - 32 = h.2 in
        let y : f ≤ 122 = h.1 in
        let z : 97 ≤ f = h.0 in
        let w : to_ascii_lowercase d ≡ d + 32 = e.2 in
        fold_plain d (λ q. omega arith) (λ q. omega arith) ∙ omega arith
    by u (inl h) (inr l) (inr (inl e, g)) (inl k) =
        let x : to_ascii_uppercase f ≡ f - 32 = h.2 in let z : 97 ≤ f = h.0 in absurd (omega arith)
    by u (inl h) (inr l) (inr (inr e, g)) (inl k) =
        let x : to_ascii_uppercase f ≡ f - 32 = h.2 in let z : f ≤ 122 = h.1 in absurd (omega arith)

beyond_fold : (f d : ℕ) → contains (nonascii_with_fold true f) d ≡ true → fold_code_point true d ≡ f
unfolding fold_code_point
beyond_fold f d e = by (f == 115) (f == 107) refl refl e
  where
    by : (a b : Bool) → (f == 115) ≡ a → (f == 107) ≡ b → contains (if a then 0x017F ∷ [] else if b then 0x212A ∷ [] else []) d ≡ true → fold_code_point true d ≡ f
    by true b s t e = ap (fold_code_point true) (only 0x017F d e) ∙ sym (eqb-true f 115 s)
    by false true s t e = ap (fold_code_point true) (only 0x212A d e) ∙ sym (eqb-true f 107 t)
    by false false s t e = absurd (true≢false (sym e))

pub same_fold : (unicode : Bool) (c d : ℕ) → contains (expand_code_point c true unicode) d ≡ true → fold_code_point unicode d ≡ fold_code_point unicode c
unfolding expand_code_point fold_code_point
same_fold true c d e =
    let f = fold_code_point true c in
    ⊎_elim (λ h. lower_of_case f d (a_lower c) (in_cases f d h)) (λ h. beyond_fold f d h) (either (cases_of f) (nonascii_with_fold true f) d (sym (ap (λ x. contains x d) (with_fold true f)) ∙ e))
same_fold false c d e = at_false c d e
  where
    at_false : (c d : ℕ) → contains (code_points_with_fold false (fold_code_point false c)) d ≡ true → fold_code_point false d ≡ fold_code_point false c
    at_false c d e =
        let f = to_ascii_uppercase c in
        ⊎_elim (λ h. upper_of_case f d (an_upper c) (in_cases f d h)) (λ h. absurd (true≢false (sym h)))
        (either (cases_of f) [] d (sym (ap (λ x. contains x d) (with_fold false f)) ∙ e))

-- A case variant of a code point has the same case variants.
pub same_class : (unicode : Bool) (c d : ℕ) → contains (expand_code_point c true unicode) d ≡ true
    → expand_code_point d true unicode ≡ expand_code_point c true unicode
unfolding expand_code_point
same_class unicode c d e = ap (code_points_with_fold unicode) (same_fold unicode c d e)

-- A code point is one of its own case variants.
pub own_class : (unicode : Bool) (d : ℕ) → contains (expand_code_point d true unicode) d ≡ true
unfolding expand_code_point fold_code_point
own_class unicode d = in_all unicode (fold_code_point unicode d) d (has_own unicode d)
  where
    in_all : (unicode : Bool) (f d : ℕ) → (contains (cases_of f) d ≡ true) ⊎ (contains (nonascii_with_fold unicode f) d ≡ true) → contains (code_points_with_fold unicode f) d ≡ true
    in_all unicode f d (inl h) = ap (λ x. contains x d) (with_fold unicode f) ∙ list_any-append (nat_eq d) (cases_of f) (nonascii_with_fold unicode f) ∙ or_left _ _ h
    in_all unicode f d (inr h) = ap (λ x. contains x d) (with_fold unicode f) ∙ list_any-append (nat_eq d) (cases_of f) (nonascii_with_fold unicode f) ∙ or_right (contains (cases_of f) d) _ h

    has_own : (unicode : Bool) (d : ℕ) → (contains (cases_of (fold_code_point unicode d)) d ≡ true) ⊎ (contains (nonascii_with_fold unicode (fold_code_point unicode d)) d ≡ true)
    has_own false d =
        elim (upper_cases d) [
          | inl h ↦
              let a : 97 ≤ d = h.0 in
              let b : d ≤ 122 = h.1 in
              let e : to_ascii_uppercase d ≡ d - 32 = h.2 in
              elim (lower_cases (to_ascii_uppercase d)) [
                | inl k ↦ let g : to_ascii_lowercase (to_ascii_uppercase d) ≡ to_ascii_uppercase d + 32 = k.2 in
                    let back : to_ascii_lowercase (to_ascii_uppercase d) ≡ d = omega arith in
                    inl (subst (λ x. contains (cases_of (to_ascii_uppercase d)) x ≡ true) back (has_both (to_ascii_uppercase d)).1)
                | inr k ↦ elim k.0 [ inl x ↦ absurd (omega arith) | inr x ↦ absurd (omega arith) ]
              ]
          | inr h ↦
              let back : to_ascii_uppercase (to_ascii_uppercase d) ≡ d = ap to_ascii_uppercase h.1 ∙ h.1 in
              inl (subst (λ x. contains (cases_of (to_ascii_uppercase d)) x ≡ true) back (has_both (to_ascii_uppercase d)).0)
        ]
    has_own true d =
        elim (cases_eq d 0x017F) [
          | inl e ↦ rw e (inr refl)
          | inr ne ↦
              elim (cases_eq d 0x212A) [
                | inl e ↦ rw e (inr refl)
                | inr ne' ↦ let plain : fold_code_point true d ≡ to_ascii_lowercase d = fold_plain d ne ne' in inl (plainly plain)
              ]
        ]
      where
        plainly : fold_code_point true d ≡ to_ascii_lowercase d → contains (cases_of (fold_code_point true d)) d ≡ true
        plainly plain =
            elim (lower_cases d) [
              | inl h ↦
                  let a : 65 ≤ d = h.0 in
                  let b : d ≤ 90 = h.1 in
                  let e : to_ascii_lowercase d ≡ d + 32 = h.2 in
                  elim (upper_cases (fold_code_point true d)) [
                    | inl k ↦ let g : to_ascii_uppercase (fold_code_point true d) ≡ fold_code_point true d - 32 = k.2 in
                        let back : to_ascii_uppercase (fold_code_point true d) ≡ d = omega arith in
                        subst (λ x. contains (cases_of (fold_code_point true d)) x ≡ true) back (has_both (fold_code_point true d)).0
                    | inr k ↦ elim k.0 [ inl x ↦ absurd (omega arith) | inr x ↦ absurd (omega arith) ]
                  ]
              | inr h ↦
                  let back : to_ascii_lowercase (fold_code_point true d) ≡ d = ap to_ascii_lowercase (plain ∙ h.1) ∙ h.1 in
                  subst (λ x. contains (cases_of (fold_code_point true d)) x ≡ true) back (has_both (fold_code_point true d)).1
            ]

alone : (f : ℕ) → to_ascii_uppercase f ≡ f → to_ascii_lowercase f ≡ f → cases_of f ≡ f ∷ []
unfolding cases_of
alone f e g = rw (eq-eqb (to_ascii_uppercase f) (to_ascii_lowercase f) (e ∙ sym g)) refl

-- A code point is its only case variant, or it is a case variant of a letter from A to Z.
pub letter_or_alone : (unicode : Bool) (d : ℕ)
    → (expand_code_point d true unicode ≡ d ∷ [])
    ⊎ ((upper : ℕ) × (65 ≤ upper) × (upper ≤ 90) × (contains (expand_code_point upper true unicode) d ≡ true))
unfolding expand_code_point fold_code_point
letter_or_alone false d = at_false d
  where
    by_fold : (u d : ℕ) → fold_code_point false u ≡ fold_code_point false d → contains (expand_code_point u true false) d ≡ true
    by_fold u d e = ap (λ x. contains (code_points_with_fold false x) d) e ∙ own_class false d

    at_false : (d : ℕ) → (expand_code_point d true false ≡ d ∷ []) ⊎ ((upper : ℕ) × (65 ≤ upper) × (upper ≤ 90) × (contains (expand_code_point upper true false) d ≡ true))
    at_false d =
        let f = to_ascii_uppercase d in
        elim (lower_cases f) [
          | inl h ↦ let b : f ≤ 90 = h.1 in
              elim (upper_cases f) [
                | inl k ↦ let c : 97 ≤ f = k.0 in absurd (omega arith)
                | inr k ↦ inr (f, h.0, h.1, by_fold f d k.1)
              ]
          | inr h ↦
              elim (upper_cases d) [
                | inl k ↦ let a : 97 ≤ d = k.0 in let b : d ≤ 122 = k.1 in let e : f ≡ d - 32 = k.2 in
                    elim h.0 [ inl x ↦ absurd (omega arith) | inr x ↦ absurd (omega arith) ]
                | inr k ↦ inl (with_fold false f ∙ ap (λ x. cases_of x ++ []) k.1 ∙ ap (λ x. x ++ []) (alone d k.1 (ap to_ascii_lowercase (sym k.1) ∙ h.1 ∙ k.1)))
              ]
        ]
letter_or_alone true d = at_true d
  where
    by_fold : (u d : ℕ) → fold_code_point true u ≡ fold_code_point true d → contains (expand_code_point u true true) d ≡ true
    by_fold u d e = ap (λ x. contains (code_points_with_fold true x) d) e ∙ own_class true d

    is_letter : (d f : ℕ) → f ≡ fold_code_point true d → 97 ≤ f → f ≤ 122 → (upper : ℕ) × (65 ≤ upper) × (upper ≤ 90) × (contains (expand_code_point upper true true) d ≡ true)
    is_letter d f e a b =
        let upper : ℕ = f - 32 in
        let x : 65 ≤ f - 32 = omega arith in
        let y : f - 32 ≤ 90 = omega arith in
        (f - 32, x, y, by_fold (f - 32) d (fold_plain (f - 32) (λ q. omega arith) (λ q. omega arith) ∙ back (lower_cases (f - 32)) ∙ e))
      where
        back : ((65 ≤ f - 32) × (f - 32 ≤ 90) × (to_ascii_lowercase (f - 32) ≡ f - 32 + 32)) ⊎ (((f - 32 < 65) ⊎ (90 < f - 32)) × (to_ascii_lowercase (f - 32) ≡ f - 32)) → to_ascii_lowercase (f - 32) ≡ f
        back (inl h) = let z : to_ascii_lowercase (f - 32) ≡ f - 32 + 32 = h.2 in omega arith
        back (inr (inl h, k)) = absurd (omega arith)
        back (inr (inr h, k)) = absurd (omega arith)

    at_plain : (d : ℕ) → fold_code_point true d ≡ to_ascii_lowercase d → (expand_code_point d true true ≡ d ∷ []) ⊎ ((upper : ℕ) × (65 ≤ upper) × (upper ≤ 90) × (contains (expand_code_point upper true true) d ≡ true))
    at_plain d plain =
        elim (lower_cases d) [
          | inl h ↦ let a : 65 ≤ d = h.0 in let b : d ≤ 90 = h.1 in let e : to_ascii_lowercase d ≡ d + 32 = h.2 in
              inr (is_letter d (d + 32) (sym (plain ∙ e)) (omega arith) (omega arith))
          | inr h ↦
              elim (upper_cases d) [
                | inl k ↦ inr (is_letter d d (sym (plain ∙ h.1)) k.0 k.1)
                | inr k ↦ inl (ap (code_points_with_fold true) (plain ∙ h.1) ∙ with_fold true d ∙ ap (λ x. x ++ nonascii_with_fold true d) (alone d k.1 h.1) ∙ ap (λ x. d ∷ x) (nothing k.0))
              ]
        ]
      where
        nothing : (d < 97) ⊎ (122 < d) → nonascii_with_fold true d ≡ []
        nothing (inl h) = rw (ne_eqb d 115 (λ e. omega arith), ne_eqb d 107 (λ e. omega arith)) refl
        nothing (inr h) = rw (ne_eqb d 115 (λ e. omega arith), ne_eqb d 107 (λ e. omega arith)) refl

    at_true : (d : ℕ) → (expand_code_point d true true ≡ d ∷ []) ⊎ ((upper : ℕ) × (65 ≤ upper) × (upper ≤ 90) × (contains (expand_code_point upper true true) d ≡ true))
    at_true d =
        elim (cases_eq d 0x017F) [
          | inl e ↦ inr (rw e (is_letter 0x017F 115 (long_s) (omega arith) (omega arith)))
          | inr ne ↦
              elim (cases_eq d 0x212A) [
                | inl e ↦ inr (rw e (is_letter 0x212A 107 (kelvin) (omega arith) (omega arith)))
                | inr ne' ↦ at_plain d (fold_plain d ne ne')
              ]
        ]
      where
        long_s : 115 ≡ fold_code_point true 0x017F
        long_s = refl

        kelvin : 107 ≡ fold_code_point true 0x212A
        kelvin = refl

-- ---- Tests that a case variant passes

pub any-intro : (test : ℕ → Bool) (xs : List ℕ) (d : ℕ) → contains xs d ≡ true → test d ≡ true → list_any test xs ≡ true
any-intro test [] d e t = absurd (true≢false (sym e))
any-intro test (x ∷ xs) d e t =
    ⊎_elim (λ h. or_left (test x) _ (sym (ap test (eqb-true d x h)) ∙ t)) (λ h. or_right (test x) _ (any-intro test xs d h t)) (or_cases (nat_eq d x) _ e)

pub fold-own : (unicode : Bool) (test : ℕ → Bool) (d : ℕ) → test d ≡ true → some_case_variant_passes unicode test d ≡ true
fold-own unicode test d t = any-intro test (expand_code_point d true unicode) d (own_class unicode d) t

pub fold-same : (unicode : Bool) (test : ℕ → Bool) (c d : ℕ) → contains (expand_code_point c true unicode) d ≡ true → some_case_variant_passes unicode test d ≡ some_case_variant_passes unicode test c
fold-same unicode test c d e = ap (list_any test) (same_class unicode c d e)

any-elim : (test : ℕ → Bool) (xs : List ℕ) → list_any test xs ≡ true → (d : ℕ) × (contains xs d ≡ true) × (test d ≡ true)
any-elim test [] e = absurd (true≢false (sym e))
any-elim test (x ∷ xs) e =
    ⊎_elim (λ h. (x, or_left (nat_eq x x) _ (eq-eqb x x refl), h)) (λ h. let k = any-elim test xs h in (k.0, or_right (nat_eq k.0 x) _ k.1, k.2)) (or_cases (test x) _ e)

-- Closing a test under case folding twice is the same as closing it once.
pub closed-twice : (flags : Flags) (test : ℕ → Bool) (c : ℕ) → closed_under_case_folding flags (closed_under_case_folding flags test) c ≡ closed_under_case_folding flags test c
unfolding expand_code_point
closed-twice flags test c = by flags.icase
  where
    by : (b : Bool) → list_any (λ d. list_any test (expand_code_point d b flags.unicode)) (expand_code_point c b flags.unicode) ≡ list_any test (expand_code_point c b flags.unicode)
    by false = simply
      where
        simply : list_any (λ d. list_any test (expand_code_point d false flags.unicode)) (expand_code_point c false flags.unicode) ≡ list_any test (expand_code_point c false flags.unicode)
        simply = either_way (test c)
          where
            either_way : (b : Bool) → ((b || false) || false) ≡ (b || false)
            either_way true = refl
            either_way false = refl
    by true =
        same-truth _ _
        (λ h. let k = any-elim (some_case_variant_passes flags.unicode test) _ h in sym (fold-same flags.unicode test c k.0 k.1) ∙ k.2)
        (λ h. fold-own flags.unicode (some_case_variant_passes flags.unicode test) c h)

-- ---- The closure, letter by letter

pub in_append : (xs ys : Intervals) (c : ℕ) → in_intervals (xs ++ ys) c ≡ (in_intervals xs c || in_intervals ys c)
in_append xs ys c = list_any-append _ xs ys

in_one : (c d : ℕ) → is_in_range d d c ≡ nat_eq c d
in_one c d =
    elim (cases_lt c d) [
      | inl below ↦ rw (lt-leb d c below, ne_eqb c d (omega arith)) refl
      | inr above ↦
          elim (cases_lt d c) [
            | inl past ↦ rw (le-leb d c above, lt-leb c d past, ne_eqb c d (omega arith)) refl
            | inr up_to ↦ let same : c ≡ d = omega arith in rw (le-leb d c above, le-leb c d up_to, eq-eqb c d same) refl
          ]
    ]

pub in_ones : (letters : List ℕ) (c : ℕ) → in_intervals (map single_code_point_interval letters) c ≡ contains letters c
in_ones [] c = refl
in_ones (d ∷ ds) c = ap₂ (λ x y. x || y) (in_one c d) (in_ones ds c)

-- The set has only case variants, keeps the test's members, and is closed for letters below `next`.
pub record ClosingSoFar (test : ℕ → Bool) (unicode : Bool) (set : Intervals) (next : ℕ) : Type 0 where
  pub sound : (d : ℕ) → in_intervals set d ≡ true → some_case_variant_passes unicode test d ≡ true
  pub kept : (d : ℕ) → test d ≡ true → in_intervals set d ≡ true
  pub complete : (upper d : ℕ) → 65 ≤ upper → upper < next → some_case_variant_passes unicode test upper ≡ true
      → contains (expand_code_point upper true unicode) d ≡ true → in_intervals set d ≡ true

pub closing-none : (test : ℕ → Bool) (unicode : Bool) (set : Intervals) → ((d : ℕ) → test d ≡ in_intervals set d) → ClosingSoFar test unicode set 65
closing-none test unicode set same = record {
  sound = λ d h. fold-own unicode test d (same d ∙ h);
  kept = λ d h. sym (same d) ∙ h;
  complete = λ upper d low high h k. absurd (omega arith);
}

in_closing : (test : ℕ → Bool) (unicode : Bool) (next d : ℕ) → in_intervals (letter_case_variants_if_any_passes test next unicode) d ≡ (some_case_variant_passes unicode test next && contains (expand_code_point next true unicode) d)
in_closing test unicode next d = by (some_case_variant_passes unicode test next)
  where
    by : (b : Bool) → in_intervals (if b then map single_code_point_interval (expand_code_point next true unicode) else []) d ≡ (b && contains (expand_code_point next true unicode) d)
    by true = in_ones (expand_code_point next true unicode) d
    by false = refl

pub closing-more : (test : ℕ → Bool) (unicode : Bool) (set new : Intervals) (next : ℕ) → ClosingSoFar test unicode set next
    → new ≡ set ++ letter_case_variants_if_any_passes test next unicode → ClosingSoFar test unicode new (next + 1)
closing-more test unicode set new next s e = record {
  sound = λ d h. ⊎_elim (λ k. s.sound d k)
      (λ k. let both = and_parts (some_case_variant_passes unicode test next) _ (sym (in_closing test unicode next d) ∙ k) in
      fold-same unicode test next d both.1 ∙ both.0)
      (or_cases (in_intervals set d) _ (sym (is d) ∙ h));
  kept = λ d h. is d ∙ or_left _ _ (s.kept d h);
  complete = λ upper d low high h k.
      elim (cases_lt upper next) [
        | inl below ↦ is d ∙ or_left _ _ (s.complete upper d low below h k)
        | inr above ↦ let same : upper ≡ next = omega arith in
            is d ∙ or_right (in_intervals set d) _
            (in_closing test unicode next d ∙ rw (sym (ap (some_case_variant_passes unicode test) same) ∙ h, sym (ap (λ x. contains (expand_code_point x true unicode) d) same) ∙ k) refl)
      ];
}
  where
    is : (d : ℕ) → in_intervals new d ≡ (in_intervals set d || in_intervals (letter_case_variants_if_any_passes test next unicode) d)
    is d = ap (λ x. in_intervals x d) e ∙ in_append set (letter_case_variants_if_any_passes test next unicode) d

pub closing-all : (test : ℕ → Bool) (unicode : Bool) (set : Intervals) (next : ℕ) → ClosingSoFar test unicode set next → 91 ≤ next
    → (d : ℕ) → in_intervals set d ≡ some_case_variant_passes unicode test d
closing-all test unicode set next s done d = same-truth _ _ (s.sound d) (λ h. by h (letter_or_alone unicode d))
  where
    by : some_case_variant_passes unicode test d ≡ true
        → (expand_code_point d true unicode ≡ d ∷ []) ⊎ ((upper : ℕ) × (65 ≤ upper) × (upper ≤ 90) × (contains (expand_code_point upper true unicode) d ≡ true))
        → in_intervals set d ≡ true
    by h (inl single_code_point_interval) = s.kept d (⊎_elim (λ k. k) (λ k. absurd (true≢false (sym k))) (or_cases (test d) false (sym (ap (list_any test) single_code_point_interval) ∙ h)))
    by h (inr k) = let last : k.0 ≤ 90 = k.2 in s.complete k.0 d k.1 (omega arith) (sym (fold-same unicode test k.0 d k.3) ∙ h) k.3

-- The intervals that a letter adds are its case variants, if one of them passes the test.
pub closing-as : (test : ℕ → Bool) (upper : ℕ) (unicode : Bool) (letters : List ℕ) (passes : Bool) → letters ≡ expand_code_point upper true unicode
    → passes ≡ list_any test letters → (if passes then map single_code_point_interval letters else []) ≡ letter_case_variants_if_any_passes test upper unicode
closing-as test upper unicode letters passes e f =
    ap (λ b. if b then map single_code_point_interval letters else []) f ∙ ap (λ x. if list_any test x then map single_code_point_interval x else []) e
