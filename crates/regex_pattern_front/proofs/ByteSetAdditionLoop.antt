-- A loop over ascending bytes adds to a set exactly the bytes that pass a test.
use Rattle.std.proofs.Common.{◌≡◌, ℕ, ◌+◌, ◌<◌, ◌≤◌, Bool, true, false, ◌&&◌, ◌||◌, List, refl, sym, ◌∙◌, arith, inl, inr}
use Rattle.std.specs.Prelude.{nat_lt, ◌==◌}
use mathlib.Core.Logic.{◌⊎◌}
use Rattle.std.proofs.lemmas.Bool.{cases_eq, cases_lt, ne_eqb, eq-eqb, lt-ltb, le-ltb}
use Rattle.regex_meaning.specs.NumberListHelpers.{contains}
use Rattle.regex_meaning.specs.StartPredicate.{bytes_that_pass}
use Rattle.regex_pattern_front.proofs.ByteSetMemberLemmas.{contains-bytes_where, bytes_where-same}
use Rattle.std.proofs.Math.Bool.{or-false}

-- These are the old bytes and the bytes below `n` that pass the test.
abbrev pub with_bytes_below : (old : List ℕ) (test : ℕ → Bool) (n : ℕ) → List ℕ
with_bytes_below old test n = bytes_that_pass (λ b. contains old b || (nat_lt b n && test b))

-- If no byte below `n` passes, the loop begins at `n` with only the old bytes.
pub with_bytes-from : (p test : ℕ → Bool) (n : ℕ) → ((b : ℕ) → b < n → test b ≡ false) → bytes_that_pass p ≡ with_bytes_below (bytes_that_pass p) test n
with_bytes-from p test n fails = bytes_where-same _ _ (λ b h. rw (contains-bytes_where p b h) (at b (cases_lt b n)))
  where
    at : (b : ℕ) → (b < n) ⊎ (n ≤ b) → p b ≡ (p b || (nat_lt b n && test b))
    at b (inl below) = rw (lt-ltb b n below, fails b below) (sym (or-false (p b)))
    at b (inr above) = rw (le-ltb b n above) (sym (or-false (p b)))

pub with_bytes-none : (p test : ℕ → Bool) → bytes_that_pass p ≡ with_bytes_below (bytes_that_pass p) test 0
with_bytes-none p test = with_bytes-from p test 0 (λ b h. absurd (omega arith))

pub with_bytes-more : (old now next : List ℕ) (test : ℕ → Bool) (n : ℕ) → test n ≡ true
    → now ≡ with_bytes_below old test n → next ≡ bytes_that_pass (λ b. b == n || contains now b) → next ≡ with_bytes_below old test (n + 1)
with_bytes-more old now next test n t e f =
    f ∙ bytes_where-same _ _ (λ b h. rw (e, contains-bytes_where (λ b. contains old b || (nat_lt b n && test b)) b h) (at b))
  where
    absorbed : (x : Bool) → true ≡ (x || true)
    absorbed true = refl
    absorbed false = refl

    at : (b : ℕ) → (b == n || (contains old b || (nat_lt b n && test b))) ≡ (contains old b || (nat_lt b (n + 1) && test b))
    at b =
        elim (cases_eq b n) [
          | inl same ↦ rw (same, eq-eqb n n refl, lt-ltb n (n + 1) (omega arith), t) (absorbed (contains old n))
          | inr ne ↦ rw (ne_eqb b n ne)
              (elim (cases_lt b n) [
                | inl below ↦ rw (lt-ltb b n below, lt-ltb b (n + 1) (omega arith))
                | inr above ↦ rw (le-ltb b n above, le-ltb b (n + 1) (omega arith))
              ])
        ]

pub with_bytes-same : (old now : List ℕ) (test : ℕ → Bool) (n : ℕ) → test n ≡ false
    → now ≡ with_bytes_below old test n → now ≡ with_bytes_below old test (n + 1)
with_bytes-same old now test n t e = e ∙ bytes_where-same _ _ (λ b h. at b)
  where
    off : (x : Bool) → false ≡ (x && false)
    off true = refl
    off false = refl

    at : (b : ℕ) → (contains old b || (nat_lt b n && test b)) ≡ (contains old b || (nat_lt b (n + 1) && test b))
    at b =
        elim (cases_eq b n) [
          | inl same ↦ rw (same, le-ltb n n (omega arith), lt-ltb n (n + 1) (omega arith), t)
          | inr ne ↦
              elim (cases_lt b n) [
                | inl below ↦ rw (lt-ltb b n below, lt-ltb b (n + 1) (omega arith))
                | inr above ↦ rw (le-ltb b n above, le-ltb b (n + 1) (omega arith))
              ]
        ]

-- If no byte from `n` on passes, the loop ends at `n` with the old bytes and all that pass.
pub with_bytes-to : (old : List ℕ) (test : ℕ → Bool) (n : ℕ) → ((b : ℕ) → n ≤ b → b < 256 → test b ≡ false)
    → with_bytes_below old test n ≡ bytes_that_pass (λ b. contains old b || test b)
with_bytes-to old test n fails = bytes_where-same _ _ (λ b h. at b h (cases_lt b n))
  where
    at : (b : ℕ) → b < 256 → (b < n) ⊎ (n ≤ b) → (contains old b || (nat_lt b n && test b)) ≡ (contains old b || test b)
    at b h (inl below) = rw (lt-ltb b n below)
    at b h (inr above) = rw (le-ltb b n above, fails b above h)

pub with_bytes-all : (old : List ℕ) (test : ℕ → Bool) (n : ℕ) → 256 ≤ n
    → with_bytes_below old test n ≡ bytes_that_pass (λ b. contains old b || test b)
with_bytes-all old test n enough = with_bytes-to old test n (λ b h k. absurd (omega arith))
