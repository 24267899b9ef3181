-- Indices within a surrogate pair, and indices after a character.
use Rattle.std.proofs.Common.{◌≡◌, ℕ, zero, suc, ◌+◌, ◌-◌, ◌<◌, ◌≤◌, ◌⊎◌, inl, inr, Bool, true, false, not, ◌&&◌, List, [], ◌∷◌, length, IsTrue, refl, sym, subst, ap, ap₂, ◌∙◌, arith, add-one}
use Rattle.std.proofs.Common.{eqb-true, le-leb, nat_eq, slice_index}
use Rattle.std.specs.Prelude.{if◌then◌else◌}
use Rattle.std.proofs.Math.Bool.{and-false}
use Rattle.std.proofs.lemmas.Bool.{and_parts, cases_Bool, cases_lt, eqb-false, false_from_ne_true}
use Rattle.regex_meaning.specs.Laws.{is_within_pair}
use Rattle.regex_meaning.specs.Text.{is_high_surrogate, is_low_surrogate, is_unit_boundary}
use Rattle.regex_meaning.specs.CodeUnits.{AreU16Units}
use Rattle.regex_meaning.proofs.UnitBoundaryLemmas.{low-not_high, unit_boundary-between}
use Rattle.regex_meaning.proofs.BoolLemmas.{not-both}
use Rattle.use_regexp.specs.Units.{advanced, character_start}

-- No unit is both a high and a low surrogate.
high-not_low : (v : ℕ) → is_high_surrogate v ≡ true → is_low_surrogate v ≡ false
high-not_low v high = false_from_ne_true (is_low_surrogate v) (λ low. not-both (is_high_surrogate v) high (low-not_high v low))

module _ (us : List ℕ) where
  -- No index past the end is within a pair.
  pub past-end : (i : ℕ) → length us ≤ i → is_within_pair us i ≡ false
  past-end zero l = refl
  past-end (suc j) l = ap (λ n. is_high_surrogate (slice_index us j) && is_low_surrogate n) (none us (suc j) l) ∙ and-false (is_high_surrogate (slice_index us j))
    where
      none : (xs : List ℕ) (k : ℕ) → length xs ≤ k → slice_index xs k ≡ 0
      none [] k l = refl
      none (x ∷ xs) zero l = absurd (omega arith)
      none (x ∷ xs) (suc k) l = none xs k (omega arith)

  inside : (i : ℕ) → is_within_pair us i ≡ true → i < length us
  inside i cut = elim (cases_lt i (length us)) [
    | inl less ↦ less
    | inr past ↦ absurd (not-both (is_within_pair us i) cut (past-end i past))
  ]

  -- The index before one within a pair is not within a pair.
  whole-before : (i : ℕ) → is_within_pair us i ≡ true → is_within_pair us (i - 1) ≡ false
  whole-before zero cut = cc
  whole-before (suc j) cut =
      let back : suc j - 1 ≡ j = omega arith in
      ap (is_within_pair us) back ∙ whole j (and_parts (is_high_surrogate (slice_index us j)) (is_low_surrogate (slice_index us (suc j))) cut).0
    where
      whole : (j : ℕ) → is_high_surrogate (slice_index us j) ≡ true → is_within_pair us j ≡ false
      whole zero high = refl
      whole (suc k) high =
          ap (λ b. is_high_surrogate (slice_index us k) && b) (high-not_low (slice_index us (suc k)) high) ∙ and-false (is_high_surrogate (slice_index us k))

module _ (u : Bool) (us : List ℕ) where
  -- The character at an index begins at the index or, within a pair, one unit before it.
  pub start-cases : (i : ℕ)
      → ((u && is_within_pair us i) ≡ true) × (character_start u us i ≡ i - 1) ⊎ ((u && is_within_pair us i) ≡ false) × (character_start u us i ≡ i)
  start-cases i = by (u && is_within_pair us i) refl
    where
      by : (b : Bool) → (u && is_within_pair us i) ≡ b
          → ((u && is_within_pair us i) ≡ true) × (character_start u us i ≡ i - 1) ⊎ ((u && is_within_pair us i) ≡ false) × (character_start u us i ≡ i)
      by true e = inl (e, ap (λ (b : Bool). if b then i - 1 else i) e)
      by false e = inr (e, ap (λ (b : Bool). if b then i - 1 else i) e)

  pub advanced-cases : (i : ℕ)
      → ((u && is_within_pair us (suc i)) ≡ true) × (advanced u us i ≡ i + 2) ⊎ ((u && is_within_pair us (suc i)) ≡ false) × (advanced u us i ≡ i + 1)
  advanced-cases i = by (u && is_within_pair us (suc i)) refl
    where
      by : (b : Bool) → (u && is_within_pair us (suc i)) ≡ b
          → ((u && is_within_pair us (suc i)) ≡ true) × (advanced u us i ≡ i + 2) ⊎ ((u && is_within_pair us (suc i)) ≡ false) × (advanced u us i ≡ i + 1)
      by true e = inl (e, ap (λ (b : Bool). if b then i + 2 else i + 1) e)
      by false e = inr (e, ap (λ (b : Bool). if b then i + 2 else i + 1) e)

  -- The character at an index begins at most one unit before it.
  pub start-near : (i : ℕ) → i ≤ character_start u us i + 1
  start-near i = elim (start-cases i) [
    | inl cut ↦ omega (arith, cut.1)
    | inr same ↦ omega (arith, same.1)
  ]

  -- If an index is not within a pair, its character begins there.
  pub start-whole : (i : ℕ) → (u ≡ true → is_within_pair us i ≡ false) → character_start u us i ≡ i
  start-whole i whole = elim (start-cases i) [
    | inl cut ↦ let parts = and_parts u (is_within_pair us i) cut.0 in absurd (not-both (is_within_pair us i) parts.1 (whole parts.0))
    | inr same ↦ same.1
  ]

  -- The next character begins after the index.
  pub advanced-starts : (i : ℕ) → i < character_start u us (advanced u us i)
  advanced-starts i = elim (advanced-cases i) [
    | inl pair ↦ rw (pair.1) (elim (start-cases (i + 2)) [
      | inl cut ↦ omega (arith, cut.1)
      | inr same ↦ omega (arith, same.1)
    ])
    | inr single ↦ rw (single.1) (elim (start-cases (i + 1)) [
      | inl cut ↦ absurd (not-both (u && is_within_pair us (suc i)) (ap (λ n. u && is_within_pair us n) (sym (add-one i)) ∙ cut.0) single.0)
      | inr same ↦ omega (arith, same.1)
    ])
  ]

  -- Given the position of a match, the loop continues after the index of the search.
  pub next-rises : (last start end : ℕ) → character_start u us last ≤ start → start ≤ end → (u ≡ true → is_within_pair us end ≡ false)
      → last < (if nat_eq start end then advanced u us end else end)
  next-rises last start end behind le whole = elim (cases_Bool (nat_eq start end)) [
    | inl empty ↦ rw empty (from_empty (eqb-true start end empty))
    | inr more ↦ rw more (from_more (eqb-false start end more))
  ]
    where
      from_empty : start ≡ end → last < advanced u us end
      from_empty same = elim (start-cases last) [
        | inl cut ↦ elim (cases_lt end last) [
          | inl less ↦
              let at : last ≡ suc end = omega (arith, cut.1) in
              elim (advanced-cases end) [
                | inl pair ↦ omega (arith, pair.1)
                | inr single ↦ absurd (not-both (u && is_within_pair us (suc end)) (ap (λ n. u && is_within_pair us n) (sym at) ∙ cut.0) single.0)
              ]
          | inr le ↦ past le
        ]
        | inr here ↦ past (omega (arith, here.1))
      ]
        where
          past : last ≤ end → last < advanced u us end
          past le = elim (advanced-cases end) [
            | inl pair ↦ omega (arith, pair.1)
            | inr single ↦ omega (arith, single.1)
          ]

      from_more : (start ≡ end → ⊥) → last < end
      from_more differ = elim (cases_lt last end) [
        | inl less ↦ less
        | inr ge ↦ elim (start-cases last) [
          | inl cut ↦
              let at : last ≡ end = omega (arith, cut.1) in
              let here = start-whole last (λ e. ap (is_within_pair us) at ∙ whole e) in
              absurd (omega (arith, here))
          | inr here ↦ absurd (omega (arith, here.1))
        ]
      ]

-- The loop continues at the end of the match or later.
pub next-behind : (u : Bool) (us : List ℕ) (start end : ℕ) → (u ≡ true → is_within_pair us end ≡ false)
    → end ≤ character_start u us (if nat_eq start end then advanced u us end else end)
next-behind u us start end whole = elim (cases_Bool (nat_eq start end)) [
  | inl empty ↦ rw empty (let less = advanced-starts u us end in omega arith)
  | inr more ↦ rw more (let same = start-whole u us end whole in omega arith)
]

-- A search may begin where the character at an index begins.
start-boundary : (us : List ℕ) → AreU16Units us → (i : ℕ)
    → IsTrue (is_unit_boundary us (character_start true us i)) ⊎ (length us < character_start true us i)
start-boundary us small i = elim (start-cases true us i) [
  | inl cut ↦ rw (cut.1) (inl (boundary (i - 1) (let less = inside us i cut.0 in omega arith) (whole-before us i cut.0)))
  | inr same ↦ rw (same.1) (elim (cases_lt (length us) i) [
    | inl past ↦ inr past
    | inr within ↦ inl (boundary i within same.0)
  ])
]
  where
    boundary : (i : ℕ) → i ≤ length us → is_within_pair us i ≡ false → is_unit_boundary us i ≡ true
    boundary i le whole = unit_boundary-between us i small ∙ ap₂ (λ a b. a && not b) (le-leb i (length us) le) whole

-- The same for a number that is equal to this position.
pub may-begin : (u : Bool) (us : List ℕ) (i start : ℕ) → AreU16Units us → start ≡ character_start u us i → u ≡ true
    → IsTrue (is_unit_boundary us start) ⊎ (length us < start)
may-begin u us i start small s e =
    subst (λ at. IsTrue (is_unit_boundary us at) ⊎ (length us < at)) (sym (s ∙ ap (λ u. character_start u us i) e)) (start-boundary us small i)
