-- Conjunctions and disjunctions determine their operands, and equivalent tests are equal.
use Rattle.std.proofs.Common.{◌≡◌, ℕ, ◌≤◌, Bool, true, false, ◌&&◌, ◌||◌, refl, sym, ◌∙◌, arith}
use Rattle.std.specs.Prelude.{nat_le}
use mathlib.Core.Logic.{inl, inr}
use Rattle.std.proofs.lemmas.Bool.{and_parts, or_parts, cases_lt, lt-leb, le-leb}

module _ (a b : Bool) where
  pub and-left : (a && b) ≡ true → a ≡ true
  and-left h = (and_parts a b h).0

  pub and-right : (a && b) ≡ true → b ≡ true
  and-right h = (and_parts a b h).1

  pub or-false-left : (a || b) ≡ false → a ≡ false
  or-false-left h = (or_parts a b h).0

  pub or-false-right : (a || b) ≡ false → b ≡ false
  or-false-right h = (or_parts a b h).1

pub same-truth : (a b : Bool) → (a ≡ true → b ≡ true) → (b ≡ true → a ≡ true) → a ≡ b
same-truth true b h k = sym (h refl)
same-truth false true h k = k refl
same-truth false false h k = refl

-- A test is false if it implies a test that is false.
pub false-by-implication : (a b : Bool) → (a ≡ true → b ≡ true) → b ≡ false → a ≡ false
false-by-implication true b f e = let t : b ≡ true = f refl in cc
false-by-implication false b f e = refl

pub not-both : (b : Bool) → b ≡ true → b ≡ false → ⊥
not-both b t f = cc

-- Two tests of order are equal if each of the two orders implies the other.
pub le-same : (a b c d : ℕ) → (a ≤ b → c ≤ d) → (c ≤ d → a ≤ b) → nat_le a b ≡ nat_le c d
le-same a b c d to back = elim (cases_lt b a) [
  | inl less ↦ lt-leb a b less ∙ sym (not-le (λ le. let l = back le in omega arith))
  | inr le ↦ le-leb a b le ∙ sym (le-leb c d (to le))
]
  where
    not-le : (c ≤ d → ⊥) → nat_le c d ≡ false
    not-le none = elim (cases_lt d c) [
      | inl less ↦ lt-leb c d less
      | inr le ↦ absurd (none le)
    ]
