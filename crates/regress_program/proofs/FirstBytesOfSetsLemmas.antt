-- The set of first bytes of code points depends only on the code points, not on their intervals.
use Rattle.std.proofs.Common.{◌≡◌, ℕ, ◌+◌, ◌-◌, ◌<◌, ◌≤◌, min, max, Bool, true, false, not, ◌&&◌, ◌||◌, List, [], ◌∷◌, flat_map, refl, sym, ap, ◌∙◌, arith, inl, inr, if◌then◌else◌}
use Rattle.std.specs.Prelude.{nat_lt, nat_le}
use Rattle.std.specs.List.{list_any}
use Rattle.std.specs.Int.{is_in_range}
use Rattle.std.proofs.lemmas.Bool.{cases_lt, lt-ltb, le-ltb, and_from, or_left, or_right, le-leb, leb-true}
use Rattle.std.proofs.lemmas.Bool.Decides.{nat_tests}
use Rattle.std.proofs.lemmas.List.Folds.{list_any-append}
use Rattle.regex_meaning.specs.Tree.{Intervals}
use Rattle.regex_meaning.specs.Outcomes.{in_intervals}
use Rattle.regex_meaning.specs.StartPredicate.{chars_with_first_byte, intersects, first_bytes, interval_minus, intervals_minus}
use Rattle.regex_meaning.proofs.FirstByteOfCharacter.{in_range-true, true-in_range}
use Rattle.regex_pattern_front.proofs.ByteSetMemberLemmas.{bytes_where-same}
use Rattle.regex_meaning.proofs.BoolLemmas.{and-left, and-right, same-truth}

-- ---- Sets that share a number

-- An element of the list passes the test.
record Passes {A : Type 0} (test : A → Bool) (xs : List A) : Type 0 where
  this : A
  passes : test this ≡ true
  stands : (other : A → Bool) → other this ≡ true → list_any other xs ≡ true

some : {A : Type 0} (test : A → Bool) (xs : List A) → list_any test xs ≡ true → Passes test xs
some test [] h = cc
some test (x ∷ xs) h = by (test x) refl (λ k. some test xs k)
  where
    by : (t : Bool) → test x ≡ t → (list_any test xs ≡ true → Passes test xs) → Passes test (x ∷ xs)
    by true e next = record { this = x; passes = e; stands = λ other k. or_left _ _ k }
    by false e next =
        let later = next (rw e at h) in
        record { this = later.this; passes = later.passes; stands = λ other k. or_right _ _ (later.stands other k) }

abbrev touches : ℕ × ℕ → ℕ × ℕ → Bool
touches x y = nat_le x.0 x.1 && nat_le y.0 y.1 && nat_le x.0 y.1 && nat_le y.0 x.1

-- Two intervals that share a number touch.
share : (x y : ℕ × ℕ) (c : ℕ) → is_in_range x.0 x.1 c ≡ true → is_in_range y.0 y.1 c ≡ true → touches x y ≡ true
share x y c h k =
    let in_x = true-in_range x.0 x.1 c h in
    let in_y = true-in_range y.0 y.1 c k in
    and_from _ _ (and_from _ _ (and_from _ _ (le-leb x.0 x.1 (omega arith)) (le-leb y.0 y.1 (omega arith))) (le-leb x.0 y.1 (omega arith))) (le-leb y.0 x.1 (omega arith))

at_greater : (x y : ℕ × ℕ) → x.0 ≤ x.1 → y.0 ≤ y.1 → x.0 ≤ y.1 → y.0 ≤ x.1
    → (is_in_range x.0 x.1 (max x.0 y.0) ≡ true) × (is_in_range y.0 y.1 (max x.0 y.0) ≡ true)
at_greater x y one two three four =
    (in_range-true x.0 x.1 (max x.0 y.0) (omega arith) (omega arith), in_range-true y.0 y.1 (max x.0 y.0) (omega arith) (omega arith))

shared : (x y : ℕ × ℕ) → touches x y ≡ true → (is_in_range x.0 x.1 (max x.0 y.0) ≡ true) × (is_in_range y.0 y.1 (max x.0 y.0) ≡ true)
shared x y h =
    at_greater x y
    (leb-true x.0 x.1 (and-left _ _ (and-left _ _ (and-left _ _ h))))
    (leb-true y.0 y.1 (and-right _ _ (and-left _ _ (and-left _ _ h))))
    (leb-true x.0 y.1 (and-right _ _ (and-left _ _ h)))
    (leb-true y.0 x.1 (and-right _ _ h))

-- Two sets that share a number intersect.
meet_at : (xs ys : Intervals) (c : ℕ) → in_intervals xs c ≡ true → in_intervals ys c ≡ true → intersects xs ys ≡ true
meet_at xs ys c h k =
    let x = some (λ i. is_in_range i.0 i.1 c) xs h in
    let y = some (λ i. is_in_range i.0 i.1 c) ys k in
    x.stands (λ i. list_any (touches i) ys) (y.stands (touches x.this) (share x.this y.this c x.passes y.passes))

record Shared (xs ys : Intervals) : Type 0 where
  number : ℕ
  left : in_intervals xs number ≡ true
  right : in_intervals ys number ≡ true

met : (xs ys : Intervals) → intersects xs ys ≡ true → Shared xs ys
met xs ys h =
    let x = some (λ i. list_any (touches i) ys) xs h in
    let y = some (touches x.this) ys x.passes in
    let both = shared x.this y.this y.passes in
    let c = max x.this.0 y.this.0 in
    record { number = c; left = x.stands (λ i. is_in_range i.0 i.1 c) both.0; right = y.stands (λ i. is_in_range i.0 i.1 c) both.1 }

meet_same : (xs ys zs : Intervals) → ((c : ℕ) → in_intervals ys c ≡ in_intervals zs c) → intersects xs ys ≡ true → intersects xs zs ≡ true
meet_same xs ys zs e h = let at = met xs ys h in meet_at xs zs at.number at.left (sym (e at.number) ∙ at.right)

pub first_bytes-same : (xs ys : Intervals) → ((c : ℕ) → in_intervals xs c ≡ in_intervals ys c) → first_bytes xs ≡ first_bytes ys
first_bytes-same xs ys e =
    bytes_where-same _ _ (λ b h. same-truth _ _ (meet_same (chars_with_first_byte b) xs ys e) (meet_same (chars_with_first_byte b) ys xs (λ c. sym (e c))))

-- ---- Complements

in_below : (f l o c : ℕ) → in_intervals (if nat_lt f o then (f, min l (o - 1)) ∷ [] else []) c ≡ (is_in_range f l c && nat_lt c o)
in_below f l o c =
    elim (cases_lt f o) [
      | inl below ↦ rw (lt-ltb f o below) (grind (arith, nat_tests))
      | inr past ↦ rw (le-ltb f o past) (grind (arith, nat_tests))
    ]

in_above : (f l o c : ℕ) → in_intervals (if nat_lt o l then (max f (o + 1), l) ∷ [] else []) c ≡ (is_in_range f l c && nat_lt o c)
in_above f l o c =
    elim (cases_lt o l) [
      | inl below ↦ rw (lt-ltb o l below) (grind (arith, nat_tests))
      | inr past ↦ rw (le-ltb o l past) (grind (arith, nat_tests))
    ]

two_parts : (inside : Bool) (first last c : ℕ) → ((inside && nat_lt c first) || (inside && nat_lt last c)) ≡ (inside && not (is_in_range first last c))
two_parts true first last c = grind (arith, nat_tests)
two_parts false first last c = refl

empty_other : (inside : Bool) (first last c : ℕ) → last < first → (inside || false) ≡ (inside && not (is_in_range first last c))
empty_other true first last c h = grind (arith, nat_tests)
empty_other false first last c h = refl

in_outside : (other this : ℕ × ℕ) (c : ℕ) → in_intervals (interval_minus other this) c ≡ (is_in_range this.0 this.1 c && not (is_in_range other.0 other.1 c))
in_outside other this c =
    elim (cases_lt other.1 other.0) [
      | inl none ↦ rw (lt-ltb other.1 other.0 none) (empty_other (is_in_range this.0 this.1 c) other.0 other.1 c none)
      | inr some ↦ rw (le-ltb other.1 other.0 some)
          (list_any-append (λ i. is_in_range i.0 i.1 c) (if nat_lt this.0 other.0 then (this.0, min this.1 (other.0 - 1)) ∷ [] else []) (if nat_lt other.1 this.1 then (max this.0 (other.1 + 1), this.1) ∷ [] else [])
          ∙ ap (λ t. t || in_intervals (if nat_lt other.1 this.1 then (max this.0 (other.1 + 1), this.1) ∷ [] else []) c) (in_below this.0 this.1 other.0 c)
          ∙ ap (λ t. (is_in_range this.0 this.1 c && nat_lt c other.0) || t) (in_above this.0 this.1 other.1 c)
          ∙ two_parts (is_in_range this.0 this.1 c) other.0 other.1 c)
    ]

both_out : (a b n : Bool) → ((a && n) || (b && n)) ≡ ((a || b) && n)
both_out true true true = refl
both_out true true false = refl
both_out true false true = refl
both_out true false false = refl
both_out false b n = refl

in_each_outside : (other : ℕ × ℕ) (these : Intervals) (c : ℕ) → in_intervals (flat_map (interval_minus other) these) c ≡ (in_intervals these c && not (is_in_range other.0 other.1 c))
in_each_outside other [] c = refl
in_each_outside other (i ∷ these) c =
    list_any-append (λ j. is_in_range j.0 j.1 c) (interval_minus other i) (flat_map (interval_minus other) these)
    ∙ ap (λ t. t || in_intervals (flat_map (interval_minus other) these) c) (in_outside other i c)
    ∙ ap (λ t. (is_in_range i.0 i.1 c && not (is_in_range other.0 other.1 c)) || t) (in_each_outside other these c)
    ∙ both_out (is_in_range i.0 i.1 c) (in_intervals these c) (not (is_in_range other.0 other.1 c))

no_other : (a : Bool) → a ≡ (a && true)
no_other true = refl
no_other false = refl

neither : (a b d : Bool) → ((a && not b) && not d) ≡ (a && not (b || d))
neither true true d = refl
neither true false d = refl
neither false b d = refl

in_without : (these others : Intervals) (c : ℕ) → in_intervals (intervals_minus these others) c ≡ (in_intervals these c && not (in_intervals others c))
in_without these [] c = no_other (in_intervals these c)
in_without these (other ∷ others) c =
    in_without (flat_map (interval_minus other) these) others c
    ∙ ap (λ t. t && not (in_intervals others c)) (in_each_outside other these c)
    ∙ neither (in_intervals these c) (is_in_range other.0 other.1 c) (in_intervals others c)

a_code_point : (c : ℕ) → in_intervals ((0, 0x10_FFFF) ∷ []) c ≡ nat_le c 0x10_FFFF
a_code_point c = grind (arith, nat_tests)

-- The first bytes of a complement are the same for all intervals that describe it.
pub first_bytes-inverted : (these others : Intervals) → ((c : ℕ) → in_intervals others c ≡ (nat_le c 0x10_FFFF && not (in_intervals these c)))
    → first_bytes others ≡ first_bytes (intervals_minus ((0, 0x10_FFFF) ∷ []) these)
first_bytes-inverted these others e =
    first_bytes-same others (intervals_minus ((0, 0x10_FFFF) ∷ []) these)
    (λ c. e c ∙ ap (λ t. t && not (in_intervals these c)) (sym (a_code_point c)) ∙ sym (in_without ((0, 0x10_FFFF) ∷ []) these c))
