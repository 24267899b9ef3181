-- Merged intervals, the gaps between intervals and a binary search have the specified order and members.
use Rattle.std.proofs.Common.{◌≡◌, ℕ, zero, suc, ◌+◌, ◌-◌, ◌<◌, ◌≤◌, Bool, true, false, not, ◌&&◌, ◌||◌, List, [], ◌∷◌, ◌++◌, map, filter, length, get_or, min, max, refl, sym, ap, ◌∙◌, arith, inl}
use Rattle.std.proofs.Common.{inr}
use Rattle.std.specs.Prelude.{if◌then◌else◌, nat_le, nat_lt}
use Rattle.std.specs.Int.{is_in_range}
use Rattle.std.proofs.lemmas.Bool.{cases_lt, lt-leb, le-leb, lt-ltb, le-ltb, leb-true, leb-false}
use Rattle.std.specs.List.{All, list_any}
use Rattle.std.specs.List.Sorted.{IsNonDecreasingBy, IsPermutation}
use Rattle.std.proofs.lemmas.List.Sorted.{list_any-IsPermutation}
use Rattle.std.proofs.lemmas.List.Elements.{All-cons}
use Rattle.std.proofs.lemmas.Bool.Decides.{nat_tests}
use Rattle.std.proofs.lemmas.List.Recursion.{or_at, or_from_places}
use Rattle.regex_meaning.specs.Outcomes.{in_intervals}
use Rattle.regex_meaning.specs.CharacterClasses.{AreCanonicalIntervals}
use Rattle.regex_pattern_front.specs.Intervals.{interval_of, IntervalsAreInOrder, is_interval_nonempty, merged_intervals, gaps_between_intervals}
use Rattle.regex_pattern_front.specs.declared.codepointset.Interval.{Interval}

-- The number is in one of the intervals.
abbrev pub member : List Interval → ℕ → Bool
member xs c = in_intervals (map interval_of xs) c

-- No interval is empty, the first begins at `n` or later, and each other one begins at least `gap`
-- after the end of the one before it.
abbrev pub Spaced : (gap n : ℕ) → List Interval → Type 0
Spaced gap n [] = Unit {0}
Spaced gap n (i ∷ is) = (n ≤ i.first) × (i.first ≤ i.last) × Spaced gap (i.last + gap) is

-- No interval is empty, and each begins past the one before it.
abbrev pub Above : ℕ → List Interval → Type 0
Above = Spaced 1

-- No interval is empty, and between two of them a number is left out.
abbrev pub Apart : ℕ → List Interval → Type 0
Apart = Spaced 2

-- No interval is empty, and each begins no earlier than the one before it or than `n`.
abbrev pub Rises : ℕ → List Interval → Type 0
Rises n [] = Unit {0}
Rises n (i ∷ is) = (n ≤ i.first) × (i.first ≤ i.last) × Rises i.first is

Above-from_order : (n : ℕ) (xs : List Interval) → ((d : Interval) → 0 < length xs → n ≤ (get_or xs 0 d).first) → IntervalsAreInOrder (map interval_of xs) → Above n xs
Above-from_order n [] low h = tt
Above-from_order n (i ∷ []) low h = (low i (omega arith), h, tt)
Above-from_order n (i ∷ j ∷ xs) low h =
    (low i (omega arith), h.0, Above-from_order (i.last + 1) (j ∷ xs) (λ d _. let past : i.last < j.first = h.1 in omega arith) h.2)

pub Above-zero : (xs : List Interval) → IntervalsAreInOrder (map interval_of xs) → Above 0 xs
Above-zero xs h = Above-from_order 0 xs (λ d _. omega arith) h

pub order-from_Above : (n : ℕ) (xs : List Interval) → Above n xs → IntervalsAreInOrder (map interval_of xs)
order-from_Above n [] h = tt
order-from_Above n (i ∷ []) h = h.1
order-from_Above n (i ∷ j ∷ xs) h = (h.1, omega (arith, h.2.0), order-from_Above (i.last + 1) (j ∷ xs) h.2)

Rises-weaker : (m n : ℕ) (xs : List Interval) → m ≤ n → Rises n xs → Rises m xs
Rises-weaker m n [] h r = tt
Rises-weaker m n (i ∷ is) h r = let low : n ≤ i.first = r.0 in (omega arith, r.1, r.2)

Spaced-weaker : (gap m n : ℕ) (xs : List Interval) → m ≤ n → Spaced gap n xs → Spaced gap m xs
Spaced-weaker gap m n [] h a = tt
Spaced-weaker gap m n (i ∷ is) h a = let low : n ≤ i.first = a.0 in (omega arith, a.1, a.2)

-- A number below `n` is in no interval if all of them begin at `n` or later.
pub member-below : (n c : ℕ) (xs : List Interval) → Above n xs → c < n → member xs c ≡ false
member-below n c [] h l = refl
member-below n c (i ∷ is) h l =
    let low : n ≤ i.first = h.0 in
    let some : i.first ≤ i.last = h.1 in
    rw (lt-leb i.first c (omega arith)) (member-below (i.last + 1) c is h.2 (omega arith))

-- ---- Joined intervals

in_joined : (a b e d c : ℕ) (rest : Bool) → a ≤ e → e - 1 ≤ b → a ≤ b → e ≤ d
    → (is_in_range a (max b d) c || rest) ≡ (is_in_range a b c || (is_in_range e d c || rest))
in_joined a b e d c true h k l m = grind (arith, nat_tests)
in_joined a b e d c false h k l m = grind (arith, nat_tests)

false-le : (x y : ℕ) → nat_le x y ≡ false → y < x
false-le x y h = leb-false x y h

member-merged_step : (t : Bool) (now next : Interval) (others : List Interval) (c : ℕ)
    → (t ≡ true → member (merged_intervals (record now { last = max now.last next.last }) others) c ≡ member (now ∷ next ∷ others) c)
    → (t ≡ false → member (now ∷ merged_intervals next others) c ≡ member (now ∷ next ∷ others) c)
    → member (if t then merged_intervals (record now { last = max now.last next.last }) others else now ∷ merged_intervals next others) c ≡ member (now ∷ next ∷ others) c
member-merged_step true now next others c h k = h refl
member-merged_step false now next others c h k = k refl

-- Merged intervals have the same numbers as the intervals.
pub member-merged : (now : Interval) (others : List Interval) (c : ℕ) → now.first ≤ now.last → Rises now.first others
    → member (merged_intervals now others) c ≡ member (now ∷ others) c
member-merged now [] c h r = refl
member-merged now (next ∷ others) c h r =
    let after : now.first ≤ next.first = r.0 in
    let some : next.first ≤ next.last = r.1 in
    let joined : Interval = record now { last = max now.last next.last } in
    member-merged_step (nat_le (next.first - 1) now.last) now next others c
    (λ t.
    let near : next.first - 1 ≤ now.last = leb-true _ _ t in
    member-merged joined others c (omega arith) (Rises-weaker now.first next.first others after r.2)
    ∙ in_joined now.first now.last next.first next.last c (member others c) after near h some)
    (λ t. rw (member-merged next others c some r.2))

spaced-merged_step : (t : Bool) (gap n : ℕ) (now next : Interval) (others : List Interval)
    → (t ≡ true → Spaced gap n (merged_intervals (record now { last = max now.last next.last }) others))
    → (t ≡ false → Spaced gap n (now ∷ merged_intervals next others))
    → Spaced gap n (if t then merged_intervals (record now { last = max now.last next.last }) others else now ∷ merged_intervals next others)
spaced-merged_step true gap n now next others h k = h refl
spaced-merged_step false gap n now next others h k = k refl

-- If the gap is at most 2, the merged intervals are spaced by that gap.
pub Spaced-merged : (gap n : ℕ) (now : Interval) (others : List Interval) → gap ≤ 2 → n ≤ now.first → now.first ≤ now.last → Rises now.first others
    → Spaced gap n (merged_intervals now others)
Spaced-merged gap n now [] g l h r = (l, h, tt)
Spaced-merged gap n now (next ∷ others) g l h r =
    let after : now.first ≤ next.first = r.0 in
    let some : next.first ≤ next.last = r.1 in
    let joined : Interval = record now { last = max now.last next.last } in
    spaced-merged_step (nat_le (next.first - 1) now.last) gap n now next others
    (λ t. Spaced-merged gap n joined others g l (omega arith) (Rises-weaker now.first next.first others after r.2))
    (λ t.
    let far : now.last < next.first - 1 = false-le _ _ t in
    (l, h, Spaced-merged gap (now.last + gap) next others g (omega arith) some r.2))

pub apart-from_Apart : (n : ℕ) (xs : List Interval) → Apart n xs → AreCanonicalIntervals (map interval_of xs)
apart-from_Apart n [] h = tt
apart-from_Apart n (i ∷ []) h = h.1
apart-from_Apart n (i ∷ j ∷ xs) h = (h.1, omega (arith, h.2.0), apart-from_Apart (i.last + 2) (j ∷ xs) h.2)

-- Intervals that do not touch are in order.
pub order-from_canonical : (xs : List Interval) → AreCanonicalIntervals (map interval_of xs) → IntervalsAreInOrder (map interval_of xs)
order-from_canonical [] h = tt
order-from_canonical (i ∷ []) h = h
order-from_canonical (i ∷ j ∷ xs) h = let far : suc i.last < j.first = h.1 in (h.0, omega arith, order-from_canonical (j ∷ xs) h.2)

-- ---- Gaps between intervals

gap-before : (n first c : ℕ) (rest : List Interval) → n ≤ 0x10_FFFF
    → member ((if nat_lt n first then record { first = n; last = min 0x10_FFFF (first - 1) } ∷ [] else []) ++ rest) c
    ≡ ((nat_le n c && (nat_lt c first && nat_le c 0x10_FFFF)) || member rest c)
gap-before n first c rest h =
    elim (cases_lt n first) [
      | inl below ↦ rw (lt-ltb n first below) (grind (arith, nat_tests))
      | inr past ↦ rw (le-ltb n first past) (grind (arith, nat_tests))
    ]

no_rest : (t : Bool) (c : ℕ) (rest : List Interval) → member (if t then [] else rest) c ≡ (not t && member rest c)
no_rest true c rest = refl
no_rest false c rest = refl

gap_tests : (n first last c : ℕ) (inside : Bool) → n ≤ first → first ≤ last → (c < last + 1 → inside ≡ false)
    → ((nat_le n c && (nat_lt c first && nat_le c 0x10_FFFF)) || (not (nat_le 0x10_FFFF last) && (nat_le (last + 1) c && (nat_le c 0x10_FFFF && not inside))))
    ≡ (nat_le n c && (nat_le c 0x10_FFFF && not (is_in_range first last c || inside)))
gap_tests n first last c true h k low = grind (arith, nat_tests)
gap_tests n first last c false h k low = grind (arith, nat_tests)

beyond : (last c : ℕ) (inside : Bool) → 0x10_FFFF ≤ last → (not (nat_le 0x10_FFFF last) && inside) ≡ false
beyond last c inside h = rw (le-leb 0x10_FFFF last h)

pub member-gaps : (n : ℕ) (xs : List Interval) (c : ℕ) → n ≤ 0x10_FFFF → Above n xs
    → member (gaps_between_intervals n xs) c ≡ (nat_le n c && (nat_le c 0x10_FFFF && not (member xs c)))
member-gaps n [] c h a = grind (arith, nat_tests)
member-gaps n (i ∷ is) c h a =
    let low : n ≤ i.first = a.0 in
    let some : i.first ≤ i.last = a.1 in
    let rest = if nat_le 0x10_FFFF i.last then [] else gaps_between_intervals (i.last + 1) is in
    gap-before n i.first c rest h
    ∙ ap (λ b. (nat_le n c && (nat_lt c i.first && nat_le c 0x10_FFFF)) || b) (no_rest (nat_le 0x10_FFFF i.last) c (gaps_between_intervals (i.last + 1) is)
    ∙ (elim (cases_lt i.last 0x10_FFFF) [
      | inl below ↦ ap (λ b. not (nat_le 0x10_FFFF i.last) && b) (member-gaps (i.last + 1) is c (omega arith) a.2)
      | inr past ↦ beyond i.last c (member (gaps_between_intervals (i.last + 1) is) c) past ∙ sym (beyond i.last c _ past)
    ]))
    ∙ gap_tests n i.first i.last c (member is c) low some (λ l. member-below (i.last + 1) c is a.2 l)

Spaced-before : (gap m n first : ℕ) (rest : List Interval) → 0 < gap → m ≤ n → n ≤ 0x10_FFFF → Spaced gap m rest → Spaced gap (first + (gap - 1)) rest
    → Spaced gap m ((if nat_lt n first then record { first = n; last = min 0x10_FFFF (first - 1) } ∷ [] else []) ++ rest)
Spaced-before gap m n first rest some h k a b =
    elim (cases_lt n first) [
      | inl below ↦ rw (lt-ltb n first below) (h, omega arith, Spaced-weaker gap _ (first + (gap - 1)) rest (omega arith) b)
      | inr past ↦ rw (le-ltb n first past) a
    ]

pub Spaced-gaps : (gap m n : ℕ) (xs : List Interval) → 0 < gap → gap ≤ 2 → m ≤ n → n ≤ 0x10_FFFF → Above n xs → Spaced gap m (gaps_between_intervals n xs)
Spaced-gaps gap m n [] g g' h k a = (h, k, tt)
Spaced-gaps gap m n (i ∷ is) g g' h k a =
    let low : n ≤ i.first = a.0 in
    let some : i.first ≤ i.last = a.1 in
    elim (cases_lt i.last 0x10_FFFF) [
      | inl below ↦ rw (lt-leb 0x10_FFFF i.last below)
          (Spaced-before gap m n i.first (gaps_between_intervals (i.last + 1) is) g h k (Spaced-gaps gap m (i.last + 1) is g g' (omega arith) (omega arith) a.2)
          (Spaced-gaps gap (i.first + (gap - 1)) (i.last + 1) is g g' (omega arith) (omega arith) a.2))
      | inr past ↦ rw (le-leb 0x10_FFFF i.last past) (Spaced-before gap m n i.first [] g h k tt tt)
    ]

-- ---- Binary search

Above-at : (n : ℕ) (xs : List Interval) (k : ℕ) (d : Interval) → Above n xs → k < length xs
    → (n ≤ (get_or xs k d).first) × ((get_or xs k d).first ≤ (get_or xs k d).last)
Above-at n [] k d a h = absurd (omega arith)
Above-at n (i ∷ is) zero d a h = (a.0, a.1)
Above-at n (i ∷ is) (suc k) d a h =
    let low : n ≤ i.first = a.0 in
    let some : i.first ≤ i.last = a.1 in
    let there = Above-at (i.last + 1) is k d a.2 (omega arith) in
    let past : i.last + 1 ≤ (get_or is k d).first = there.0 in
    (omega arith, there.1)

apart : (n : ℕ) (xs : List Interval) (j k : ℕ) (d : Interval) → Above n xs → j < k → k < length xs
    → (get_or xs j d).last < (get_or xs k d).first
apart n [] j k d a h l = absurd (omega arith)
apart n (i ∷ is) zero (suc k) d a h l =
    let past = (Above-at (i.last + 1) is k d a.2 (omega arith)).0 in omega arith
apart n (i ∷ is) (suc j) (suc k) d a h l = apart (i.last + 1) is j k d a.2 (omega arith) (omega arith)
apart n (i ∷ is) j zero d a h l = absurd (omega arith)

-- Each interval before the index ends before the number.
abbrev pub EndBefore : List Interval → (c index : ℕ) → Type 0
EndBefore xs c index = (k : ℕ) (d : Interval) → k < index → (get_or xs k d).last < c

-- Each interval from the index on begins after the number.
abbrev pub BeginAfter : List Interval → (c index : ℕ) → Type 0
BeginAfter xs c index = (k : ℕ) (d : Interval) → index ≤ k → k < length xs → c < (get_or xs k d).first

-- The element at an index of a list does not depend on the default.
same_at : (xs : List Interval) (k : ℕ) (d e : Interval) → k < length xs → get_or xs k d ≡ get_or xs k e
same_at [] k d e h = absurd (omega arith)
same_at (i ∷ is) zero d e h = refl
same_at (i ∷ is) (suc k) d e h = same_at is k d e (omega arith)

-- A later interval begins later and ends later.
rising : (xs : List Interval) (j k : ℕ) (d : Interval) → IntervalsAreInOrder (map interval_of xs) → j < k → k < length xs
    → ((get_or xs j d).first < (get_or xs k d).first) × ((get_or xs j d).last < (get_or xs k d).last)
rising xs j k d o less within =
    let a = Above-zero xs o in
    let between = apart 0 xs j k d a less within in
    let one = (Above-at 0 xs j d a (omega (arith, less, within))).1 in
    let other = (Above-at 0 xs k d a within).1 in (omega (arith, between, one), omega (arith, between, other))

pub end_before : (xs : List Interval) (c middle : ℕ) (e : Interval) → IntervalsAreInOrder (map interval_of xs) → middle < length xs
    → (get_or xs middle e).last < c → EndBefore xs c (middle + 1)
end_before xs c middle e o h l k d below =
    let is : (get_or xs middle d).last ≡ (get_or xs middle e).last = ap (λ i. i.last) (same_at xs middle d e h) in
    elim (cases_lt k middle) [
      | inl before ↦ omega (arith, l, is, (rising xs k middle d o before h).1)
      | inr after ↦ let at : k ≡ middle = omega arith in rw at (omega arith)
    ]

pub begin_after : (xs : List Interval) (c middle : ℕ) (e : Interval) → IntervalsAreInOrder (map interval_of xs) → middle < length xs
    → c < (get_or xs middle e).first → BeginAfter xs c middle
begin_after xs c middle e o h l k d from within =
    let is : (get_or xs middle d).first ≡ (get_or xs middle e).first = ap (λ i. i.first) (same_at xs middle d e h) in
    elim (cases_lt middle k) [
      | inl after ↦ omega (arith, l, is, (rising xs middle k d o after within).0)
      | inr before ↦ let at : k ≡ middle = omega arith in rw at (omega arith)
    ]

pub member-found : (xs : List Interval) (c k : ℕ) (e : Interval) → k < length xs → (get_or xs k e).first ≤ c → c ≤ (get_or xs k e).last
    → member xs c ≡ true
member-found xs c k e h l u =
    or_at (λ ys. member ys c) (λ i. is_in_range i.first i.last c) refl (λ x ys. refl) xs k e h
    (rw (le-leb (get_or xs k e).first c l, le-leb c (get_or xs k e).last u))

pub member-none : (xs : List Interval) (c low high : ℕ) (d : Interval) → high ≤ low → EndBefore xs c low → BeginAfter xs c high
    → member xs c ≡ false
member-none xs c low high d h before after =
    or_from_places (λ ys. member ys c) (λ i. is_in_range i.first i.last c) refl (λ x ys. refl) xs d
    (λ k within.
    elim (cases_lt k low) [
      | inl below ↦ let ends : (get_or xs k d).last < c = before k d below in
          rw (lt-leb c (get_or xs k d).last ends) (grind arith)
      | inr above ↦ let begins : c < (get_or xs k d).first = after k d (omega arith) within in
          rw (lt-leb (get_or xs k d).first c begins)
    ])

-- ---- Given intervals

pub list_any-map : {A B : Type 0} (p : B → Bool) (f : A → B) (xs : List A) → list_any p (map f xs) ≡ list_any (λ x. p (f x)) xs
list_any-map p f [] = refl
list_any-map p f (x ∷ xs) = ap (λ b. p (f x) || b) (list_any-map p f xs)

pub member-permuted : (xs ys : List Interval) (c : ℕ) → IsPermutation xs ys → member ys c ≡ member xs c
member-permuted xs ys c h =
    list_any-map _ interval_of ys
    ∙ sym (list_any-IsPermutation (λ i. is_in_range i.first i.last c) xs ys h)
    ∙ sym (list_any-map _ interval_of xs)

empty_range : (a b c : ℕ) (m : Bool) → b < a → m ≡ (is_in_range a b c || m)
empty_range a b c m h =
    elim (cases_lt c a) [
      | inl below ↦ rw (lt-leb a c below)
      | inr above ↦ rw (lt-leb c b (omega arith)) (nothing (nat_le a c))
    ]
  where
    nothing : (t : Bool) → m ≡ ((t && false) || m)
    nothing true = refl
    nothing false = refl

-- The empty intervals of a list have no number.
pub member-filter : (xs : List Interval) (c : ℕ) → member (filter is_interval_nonempty xs) c ≡ member xs c
member-filter [] c = refl
member-filter (i ∷ is) c =
    elim (cases_lt i.last i.first) [
      | inl none ↦ rw (lt-leb i.first i.last none) (member-filter is c ∙ empty_range i.first i.last c (member is c) none)
      | inr some ↦ rw (le-leb i.first i.last some) (ap (λ b. is_in_range i.first i.last c || b) (member-filter is c))
    ]

pub Rises-from : (n : ℕ) (xs : List Interval) → ((d : Interval) → 0 < length xs → n ≤ (get_or xs 0 d).first)
    → All (λ i. i.first ≤ i.last) xs → IsNonDecreasingBy (λ (i : Interval). i.first) xs → Rises n xs
Rises-from n [] low all rise = tt
Rises-from n (i ∷ is) low all rise = (
  low i (omega arith),
  all 0 i (omega arith),
  Rises-from i.first is
      (λ d h. rise 0 1 d (omega arith) (omega arith))
      (λ k d h. all (suc k) d (omega arith))
      (λ j k d h l. rise (suc j) (suc k) d (omega arith) (omega arith)),
)

pub All-holding : (xs : List Interval) → All (λ i. i.first ≤ i.last) (filter is_interval_nonempty xs)
All-holding [] = λ k d h. absurd (omega arith)
All-holding (i ∷ is) =
    elim (cases_lt i.last i.first) [
      | inl none ↦ rw (lt-leb i.first i.last none) (All-holding is)
      | inr some ↦ rw (le-leb i.first i.last some) (All-cons (λ (j : Interval). j.first ≤ j.last) i (filter is_interval_nonempty is) some (All-holding is))
    ]

Rises-rest : (first : Interval) (others : List Interval) → All (λ i. i.first ≤ i.last) (first ∷ others)
    → IsNonDecreasingBy (λ (i : Interval). i.first) (first ∷ others) → Rises first.first (first ∷ others)
Rises-rest first others all rise = Rises-from first.first (first ∷ others) (λ d h. omega arith) all rise

module _ (xs : List Interval) (first : Interval) (others v : List Interval) (is : xs ≡ first ∷ others)
    (all : All (λ i. i.first ≤ i.last) xs) (rise : IsNonDecreasingBy (λ (i : Interval). i.first) xs) (made : v ≡ merged_intervals first others) where
  rises : Rises first.first (first ∷ others)
  rises = Rises-rest first others (rw is at all) (rw is at rise)

  pub merged_in_order : IntervalsAreInOrder (map interval_of v)
  merged_in_order = rw made (order-from_Above first.first (merged_intervals first others) (Spaced-merged 1 first.first first others (omega arith) (omega arith) rises.1 rises.2))

  pub merged_apart : AreCanonicalIntervals (map interval_of v)
  merged_apart = rw made (apart-from_Apart first.first (merged_intervals first others) (Spaced-merged 2 first.first first others (omega arith) (omega arith) rises.1 rises.2))

  pub merged_members : (c : ℕ) → member v c ≡ member xs c
  merged_members c = rw (made, is) (member-merged first others c rises.1 rises.2)

module _ (xs v : List Interval) (order : IntervalsAreInOrder (map interval_of xs)) (made : v ≡ gaps_between_intervals 0 xs) where
  pub gaps_in_order : IntervalsAreInOrder (map interval_of v)
  gaps_in_order = rw made (order-from_Above 0 (gaps_between_intervals 0 xs) (Spaced-gaps 1 0 0 xs (omega arith) (omega arith) (omega arith) (omega arith) (Above-zero xs order)))

  pub gaps_apart : AreCanonicalIntervals (map interval_of v)
  gaps_apart = rw made (apart-from_Apart 0 (gaps_between_intervals 0 xs) (Spaced-gaps 2 0 0 xs (omega arith) (omega arith) (omega arith) (omega arith) (Above-zero xs order)))

  pub gaps_members : (c : ℕ) → member v c ≡ (nat_le c 0x10_FFFF && not (member xs c))
  gaps_members c = rw made (member-gaps 0 xs c (omega arith) (Above-zero xs order) ∙ rw (le-leb 0 c (omega arith)))
