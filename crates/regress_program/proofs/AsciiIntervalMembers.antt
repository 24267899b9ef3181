-- A loop over intervals collects exactly their members below 128.
use Rattle.std.proofs.Common.{◌≡◌, ℕ, ◌+◌, ◌<◌, ◌≤◌, min, Bool, true, false, List, [], ◌∷◌, map, length, take, get_or, inl, inr, ⊎_elim, refl, sym, ◌∙◌, arith}
use Rattle.std.proofs.lemmas.Bool.{cases_lt, lt-ltb, le-ltb, lt-leb, or_cases, and_left, and_right, and_from}
use borrow.Author.Tests.{ltb-true}
use Rattle.std.specs.Prelude.{nat_lt, nat_le, ◌||◌, ◌&&◌}
use Rattle.std.specs.List.{list_all}
use Rattle.std.specs.Int.{is_in_range}
use Rattle.regex_meaning.specs.Outcomes.{in_intervals}
use Rattle.regex_meaning.specs.StartPredicate.{bytes_that_pass}
use Rattle.regex_pattern_front.proofs.ByteSetMemberLemmas.{bytes_where-same, bytes_where-none, contains-bytes_where}
use Rattle.std.proofs.lemmas.List.{length-map}
use Rattle.regex_meaning.proofs.BoolLemmas.{and-left, and-right}
use Rattle.std.proofs.lemmas.List.Folds.{list_any_more}
use Rattle.std.proofs.Math.ListN.{get_or-map}
use Rattle.regex_meaning.specs.NumberListHelpers.{contains}
use Rattle.regex_meaning.proofs.FirstByteOfCharacter.{in_range-below, in_range-true}

-- An interval that is empty or below 128 contains no number from 128 on.
not_inside : (first last b : ℕ) → 128 ≤ b → (nat_lt last 128 || nat_lt last first) ≡ true → is_in_range first last b ≡ false
not_inside first last b h e =
    ⊎_elim (λ (below : nat_lt last 128 ≡ true). let lt : last < 128 = omega (arith, ltb-true last 128 below) in let past : last < b = omega arith in and_false (nat_le first b) (lt-leb b last past))
    (λ (none : nat_lt last first ≡ true). let lt : last < first = omega (arith, ltb-true last first none) in one_fails first last b lt)
    (or_cases (nat_lt last 128) (nat_lt last first) e)
  where
    and_false : (a : Bool) → {c : Bool} → c ≡ false → (a && c) ≡ false
    and_false true e = e
    and_false false e = refl

    one_fails : (first last b : ℕ) → last < first → is_in_range first last b ≡ false
    one_fails first last b lt =
        ⊎_elim (λ (below : b < first). rw (lt-leb first b below))
        (λ (above : first ≤ b). let past : last < b = omega arith in and_false (nat_le first b) (lt-leb b last past))
        (cases_lt b first)

outside_ascii : (intervals : List (ℕ × ℕ)) (b : ℕ) → 128 ≤ b → list_all (λ i. nat_lt i.1 128 || nat_lt i.1 i.0) intervals ≡ true → in_intervals intervals b ≡ false
outside_ascii [] b h e = refl
outside_ascii (i ∷ intervals) b h e =
    let here : is_in_range i.0 i.1 b ≡ false = not_inside i.0 i.1 b h (and-left (nat_lt i.1 128 || nat_lt i.1 i.0) (list_all (λ j. nat_lt j.1 128 || nat_lt j.1 j.0) intervals) e) in
    let later : in_intervals intervals b ≡ false = outside_ascii intervals b h (and-right (nat_lt i.1 128 || nat_lt i.1 i.0) (list_all (λ j. nat_lt j.1 128 || nat_lt j.1 j.0) intervals) e) in
    rw (here, later)

-- If each interval is empty or below 128, the members below 128 are all members.
pub ascii_bytes : (intervals : List (ℕ × ℕ)) → list_all (λ i. nat_lt i.1 128 || nat_lt i.1 i.0) intervals ≡ true
    → bytes_that_pass (λ b. nat_lt b 128 && in_intervals intervals b) ≡ bytes_that_pass (in_intervals intervals)
ascii_bytes intervals e = bytes_where-same _ _ (λ b h. elim (cases_lt b 128) [
  | inl below ↦ rw (lt-ltb b 128 below)
  | inr above ↦ rw (le-ltb b 128 above) (sym (outside_ascii intervals b above e))
])

pub ascii_none : [] ≡ bytes_that_pass (λ b. nat_lt b 128 && in_intervals [] b)
ascii_none = sym (bytes_where-none _ (λ b h. and_right (nat_lt b 128) false refl))

-- One more interval adds its numbers below 128 to the members.
pub ascii_more : {A : Type 0} (f : A → ℕ × ℕ) (items : List A) (i : ℕ) (d : A) (now next : List ℕ) → i < length items
    → now ≡ bytes_that_pass (λ b. nat_lt b 128 && in_intervals (take i (map f items)) b)
    → next ≡ bytes_that_pass (λ b. contains now b || (nat_lt b 128 && is_in_range (f (get_or items i d)).0 (f (get_or items i d)).1 b))
    → next ≡ bytes_that_pass (λ b. nat_lt b 128 && in_intervals (take (i + 1) (map f items)) b)
ascii_more f items i d now next h e g = g ∙ bytes_where-same _ _ (λ b k.
    rw (e, contains-bytes_where (λ b. nat_lt b 128 && in_intervals (take i (map f items)) b) b k)
    (rw (list_any_more (λ j. is_in_range j.0 j.1 b) (map f items) i (f d) (omega (arith, length-map items f)), get_or-map f items i d)
    (spread (nat_lt b 128) (in_intervals (take i (map f items)) b) (is_in_range (f (get_or items i d)).0 (f (get_or items i d)).1 b))))
  where
    spread : (t x y : Bool) → ((t && x) || (t && y)) ≡ (t && (x || y))
    spread true x y = refl
    spread false x y = refl

-- A number below an interval is not one of its ASCII members.
pub fails_below : (first last b : ℕ) → b < first → (nat_lt b 128 && is_in_range first last b) ≡ false
fails_below first last b h = and_right (nat_lt b 128) _ (in_range-below first last b h)

pub fails_above : (first last b : ℕ) → min last 127 < b → (nat_lt b 128 && is_in_range first last b) ≡ false
fails_above first last b h = elim (cases_lt last b) [
  | inl past ↦ and_right (nat_lt b 128) _ (and_right (nat_le first b) _ (lt-leb b last past))
  | inr within ↦ and_left (nat_lt b 128) _ (le-ltb b 128 (omega arith))
]

pub passes_between : (first last b : ℕ) → first ≤ b → b ≤ min last 127 → (nat_lt b 128 && is_in_range first last b) ≡ true
passes_between first last b h k = and_from _ _ (lt-ltb b 128 (omega arith)) (in_range-true first last b h (omega arith))
