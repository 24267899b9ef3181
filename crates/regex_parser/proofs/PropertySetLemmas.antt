-- The intervals made of a database set have exactly the code points of that set.
use Rattle.std.proofs.Common.{◌≡◌, ℕ, ◌<◌, ◌≤◌, Bool, true, false, ◌&&◌, ◌||◌, List, [], ◌∷◌, map, length, take, min, nat_le, refl, sym, ap, ap₂, ◌∙◌, arith, ⊎_elim}
use Rattle.std.proofs.lemmas.List.{take_all}
use Rattle.std.proofs.lemmas.Bool.{cases_lt, le-leb, lt-leb}
use Rattle.std.proofs.lemmas.Bool.Decides.{nat_tests}
use Rattle.ucd_table.specs.Rows.{in_ranges, HasExactly}
use Rattle.ucd_sets.specs.Sets.{in_set}
use Rattle.ucd_sets.specs.declared.set.Set.{Set}
use Rattle.regex_meaning.specs.Outcomes.{in_intervals}
use Rattle.regex_meaning.specs.UnicodeProperties.{has_property, in_database}
use Rattle.regex_pattern_front.specs.Intervals.{interval_of}
use Rattle.regex_pattern_front.specs.declared.codepointset.Interval.{Interval}

-- `clamped` cuts a range at U+10FFFF.
abbrev pub clamped : ℕ × ℕ → Interval
clamped r = record { first = r.0; last = min r.1 0x10_FFFF }

abbrev member : List (ℕ × ℕ) → ℕ → Bool
member rs c = in_intervals (map interval_of (map clamped rs)) c

le-min : (c n m : ℕ) → c ≤ m → nat_le c (min n m) ≡ nat_le c n
le-min c n m h = grind (arith, nat_tests)

past-min : (c n m : ℕ) → m < c → nat_le c (min n m) ≡ false
past-min c n m h = grind (arith, nat_tests)

and-false : (b : Bool) → (b && false) ≡ false
and-false true = refl
and-false false = refl

clamped-within : (rs : List (ℕ × ℕ)) (c : ℕ) → c ≤ 0x10_FFFF → member rs c ≡ in_ranges rs c
unfolding in_ranges
clamped-within [] c h = refl
clamped-within (r ∷ rs) c h = ap₂ (λ a b. (nat_le r.0 c && a) || b) (le-min c r.1 0x10_FFFF h) (clamped-within rs c h)

clamped-past : (rs : List (ℕ × ℕ)) (c : ℕ) → 0x10_FFFF < c → member rs c ≡ false
clamped-past [] c h = refl
clamped-past (r ∷ rs) c h = ap₂ (λ a b. (nat_le r.0 c && a) || b) (past-min c r.1 0x10_FFFF h) (clamped-past rs c h) ∙ ap (λ a. a || false) (and-false (nat_le r.0 c))

pub database-set : (rs : List (ℕ × ℕ)) (s : Set) → HasExactly rs (in_set s) → (c : ℕ) → member rs c ≡ has_property (in_database s) c
unfolding has_property
database-set rs s h c = ⊎_elim past within (cases_lt 0x10_FFFF c)
  where
    past : 0x10_FFFF < c → member rs c ≡ (nat_le c 0x10_FFFF && in_set s c)
    past k = clamped-past rs c k ∙ sym (ap (λ b. b && in_set s c) (lt-leb c 0x10_FFFF k))

    within : c ≤ 0x10_FFFF → member rs c ≡ (nat_le c 0x10_FFFF && in_set s c)
    within k = clamped-within rs c k ∙ h c k ∙ sym (ap (λ b. b && in_set s c) (le-leb c 0x10_FFFF k))

-- The clamped ranges of a set contain exactly the code points with the property.
pub database-all : (items all : List (ℕ × ℕ)) (n : ℕ) (s : Set) → length items ≤ n → items ≡ all → HasExactly all (in_set s) → (c : ℕ)
    → in_intervals (map interval_of (map clamped (take n items))) c ≡ has_property (in_database s) c
database-all items all n s h e exact c = ap (λ x. member x c) (take_all n items h ∙ e) ∙ database-set all s exact c
