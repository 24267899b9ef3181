-- A mask has a bit for each offset that passes a test, so its lowest bit gives the first candidate.
use Rattle.std.proofs.Common.{◌≡◌, ◌≢◌, ℕ, ◌+◌, ◌-◌, ◌<◌, ◌≤◌, Bool, true, false, Option, Some, None, refl, ap, sym, ◌∙◌, subst, arith, bit_and, bit_or, ◌||◌}
use Rattle.std.specs.Int.{bit_at}
use Rattle.std.proofs.lemmas.Bool.{cases_lt, cases_eq, false_from_ne_true}
use Rattle.std.proofs.lemmas.Nat.Bits.{bit_at_and, bit_at_or, bit_at-zero}
use Rattle.memchr.proofs.lemmas.BitLemmas.{bit_at_both, bit_at_left}
use mathlib.Core.Logic.{inl, inr}
use Rattle.regress_search.specs.MarkedOffsets.{TestFailsThroughoutRange, IsFirstPassingOffset, MarksAllPassing}

module _ (test : ℕ → Bool) where
  -- ---- Ranges of offsets

  pub none-here : (at : ℕ) → TestFailsThroughoutRange test at at
  none-here at x le less = absurd (omega (arith, le, less))

  pub none-one : (from to : ℕ) → TestFailsThroughoutRange test from to → test to ≡ false → TestFailsThroughoutRange test from (to + 1)
  none-one from to none not x le less = elim (cases_lt x to) [
    | inl before ↦ none x le before
    | inr after ↦ subst (λ x. test x ≡ false) (let z : to ≡ x = omega (arith, after, less) in z) not
  ]

  pub none-then : (from mid to : ℕ) → TestFailsThroughoutRange test from mid → TestFailsThroughoutRange test mid to → TestFailsThroughoutRange test from to
  none-then from mid to first second x le less = elim (cases_lt x mid) [
    | inl before ↦ first x le before
    | inr after ↦ second x after less
  ]

  -- If the test fails up to `mid`, the first pass from `mid` on is the first from `from` on.
  pub first-behind : (from mid to : ℕ) (found : Option ℕ) → from ≤ mid → TestFailsThroughoutRange test from mid → IsFirstPassingOffset test mid to found → IsFirstPassingOffset test from to found
  first-behind from mid to None le none first = none-then from mid to none first
  first-behind from mid to (Some at) le none first =
      let more = first.0 in (omega (arith, le, more), first.1, first.2, none-then from mid at none first.3)

  -- If a range ends with 32 offsets that overlap the failing ones, their first pass is that of the range.
  pub first-overlapping : (from at to : ℕ) (found : Option ℕ) → from + 32 ≤ to → to < at + 32 → TestFailsThroughoutRange test from at
      → IsFirstPassingOffset test (to - 32) (to - 32 + 32) found → IsFirstPassingOffset test from to found
  first-overlapping from at to found room near none first =
      let back : to - 32 + 32 ≡ to = omega (arith, room) in
      first-behind from (to - 32) to found (omega (arith, room)) (λ x le less. none x le (omega (arith, less, near)))
      (subst (λ end. IsFirstPassingOffset test (to - 32) end found) back first)

  pub first-wider : (from mid to at : ℕ) → mid ≤ to → IsFirstPassingOffset test from mid (Some at) → IsFirstPassingOffset test from to (Some at)
  first-wider from mid to at le first = let less = first.1 in (first.0, omega (arith, le, less), first.2, first.3)

  -- ---- Masks

  module _ (from marks : ℕ) (are : MarksAllPassing test from marks) where
    -- The test fails at an offset whose bit is clear.
    pub unmarked : (k : ℕ) → from ≤ k → k < from + 32 → bit_at marks (k - from) ≡ 0 → test k ≡ false
    unmarked k low high clear = false_from_ne_true (test k) never
      where
        never : test k ≡ true → ⊥
        never holds =
            let back : from + (k - from) ≡ k = omega (arith, low) in
            let set = are.each (k - from) (omega (arith, low, high)) (ap test back ∙ holds) in
            omega (arith, set, clear)

    -- The test fails at each offset before the lowest bit that is set.
    pub none-below : (bit : ℕ) → bit < 32 → ((k : ℕ) → k < bit → bit_at marks k ≡ 0) → TestFailsThroughoutRange test from (from + bit)
    none-below bit short below k low high = unmarked k low (omega (arith, high, short)) (below (k - from) (omega (arith, low, high)))

    -- If no bit is set, the test fails at each offset of the mask.
    pub none-marked : marks ≡ 0 → TestFailsThroughoutRange test from (from + 32)
    none-marked none k low high = unmarked k low high (ap (λ m. bit_at m (k - from)) none ∙ bit_at-zero (k - from))

    -- If the test fails at a bit's offset, a mask without that bit still marks each pass.
    pub marks-without : (bit left : ℕ) → test (from + bit) ≡ false → ((k : ℕ) → k < 64 → k ≢ bit → bit_at left k ≡ bit_at marks k)
        → ((k : ℕ) → bit_at left k ≡ 1 → bit_at marks k ≡ 1) → MarksAllPassing test from left
    marks-without bit left fails kept no_more = record {
      each = λ i less holds. elim (cases_eq i bit) [
        | inl same ↦ let never : true ≡ false = sym holds ∙ ap (λ i. test (from + i)) same ∙ fails in cc
        | inr other ↦ kept i (omega (arith, less)) other ∙ are.each i less holds
      ];
      within = λ i set. are.within i (no_more i set);
    }

  -- If two masks mark each pass of a test, their common bits do too.
  pub marks-both : (from a b : ℕ) → MarksAllPassing test from a → MarksAllPassing test from b → MarksAllPassing test from (bit_and a b)
  marks-both from a b first second = record {
    each = λ i less holds. bit_at_both a b i (first.each i less holds) (second.each i less holds);
    within = λ i set. first.within i (let both = bit_at_and a b i in omega (arith, both, set));
  }

-- If two masks mark the passes of two tests, their union marks the passes of either test.
pub marks-either : (test other : ℕ → Bool) (from a b : ℕ) → MarksAllPassing test from a → MarksAllPassing other from b
    → MarksAllPassing (λ at. test at || other at) from (bit_or a b)
marks-either test other from a b first second = record {
  each = λ i less holds. by i less (test (from + i)) refl holds;
  within = λ i set. elim (cases_eq (bit_at a i) 1) [
    | inl one ↦ first.within i one
    | inr none ↦ second.within i (let either = bit_at_or a b i in omega (arith, either, set, none))
  ];
}
  where
    by : (i : ℕ) → i < 32 → (t : Bool) → test (from + i) ≡ t → (t || other (from + i)) ≡ true → bit_at (bit_or a b) i ≡ 1
    by i less true here h = bit_at_left a b i (first.each i less here)
    by i less false here h = let set = second.each i less h in let either = bit_at_or a b i in omega (arith, either, set)

-- Tests that agree have the same first passing offset.
pub first-same : (test other : ℕ → Bool) (from to : ℕ) (found : Option ℕ) → ((at : ℕ) → at < to → test at ≡ other at) → IsFirstPassingOffset test from to found → IsFirstPassingOffset other from to found
first-same test other from to None same none = λ at low high. sym (same at high) ∙ none at low high
first-same test other from to (Some hit) same first =
    let inside = first.1 in
    (first.0, inside, sym (same hit inside) ∙ first.2, λ at low high. sym (same at (omega (arith, high, inside))) ∙ first.3 at low high)
