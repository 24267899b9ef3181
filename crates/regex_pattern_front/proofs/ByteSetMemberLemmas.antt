-- The set of the bytes that pass a test has exactly those members, also after a byte is added.
use Rattle.std.proofs.Common.{◌≡◌, ℕ, zero, suc, ◌+◌, ◌/◌, ◌%◌, ◌*◌, ◌^◌, ◌<◌, ◌≤◌, Bool, true, false, ◌&&◌, ◌||◌, List, [], ◌∷◌, filter, refl, sym, ap, ◌∙◌, arith, length, get_or, set, inl, inr}
use Rattle.std.proofs.Common.{get_or-set_same, get_or-set_other, bit_and, bit_or, eqb, not, replicate}
use Rattle.std.specs.Prelude.{if◌then◌else◌, nat_eq, nat_lt, ◌==◌}
use Rattle.std.specs.Int.{bit_at}
use mathlib.Core.Logic.{◌⊎◌}
use Rattle.std.proofs.lemmas.Bool.{cases_eq, cases_lt, ne_eqb, eq-eqb, eqb-true, lt-ltb, le-ltb, and_right}
use Rattle.std.proofs.lemmas.Nat.Bits.{shr_and_one, bit_at-lt}
use Rattle.std.proofs.Math.Bool.{or_comm}
use Rattle.regex_pattern_front.specs.ByteSetMembers.{is_ascii_bit_set}
use Rattle.regex_pattern_front.proofs.BitmapLemmas.{has_bit, no-bits, bit-set}
pub use Rattle.regex_meaning.proofs.SubtreeInvariantsLemmas.{contains-numbers_from}
use Rattle.regex_meaning.specs.NumberListHelpers.{contains, numbers_from}
use Rattle.regex_meaning.specs.StartPredicate.{bytes_that_pass}

-- ---- Membership

-- A number below a row of numbers is not in the row.
contains-past : (b first count : ℕ) → b < first → contains (numbers_from first count) b ≡ false
contains-past b first zero h = refl
contains-past b first (suc count) h =
    rw (ne_eqb b first (omega arith)) (contains-past b (first + 1) count (omega arith))

contains-if : (t : Bool) (x b : ℕ) (l : List ℕ) → contains (if t then x ∷ l else l) b ≡ (if t then (nat_eq b x || contains l b) else contains l b)
contains-if true x b l = refl
contains-if false x b l = refl

one_more : (t e tb r : Bool) → (e ≡ true → tb ≡ t) → (if t then (e || (tb && r)) else (tb && r)) ≡ (tb && (e || r))
one_more true true true r h = refl
one_more true true false r h = sym (h refl)
one_more true false tb r h = refl
one_more false true true r h = absurd (let k : true ≡ false = h refl in cc)
one_more false true false r h = refl
one_more false false tb r h = refl

contains-filter : (test : ℕ → Bool) (b first count : ℕ)
    → contains (filter test (numbers_from first count)) b ≡ (test b && contains (numbers_from first count) b)
contains-filter test b first zero = none (test b)
  where
    none : (t : Bool) → false ≡ (t && false)
    none true = refl
    none false = refl
contains-filter test b first (suc count) =
    contains-if (test first) first b (filter test (numbers_from (first + 1) count))
    ∙ rw (contains-filter test b (first + 1) count)
    (one_more (test first) (nat_eq b first) (test b) (contains (numbers_from (first + 1) count) b) (λ e. ap test (eqb-true b first e)))

-- A byte is among the bytes that pass a test exactly if it passes.
pub contains-bytes_where : (test : ℕ → Bool) (b : ℕ) → b < 256 → contains (bytes_that_pass test) b ≡ test b
unfolding bytes_that_pass
contains-bytes_where test b h =
    contains-filter test b 0 256 ∙ rw (contains-numbers_from b 0 256 (omega arith) (omega arith)) (with_true (test b))
  where
    with_true : (t : Bool) → (t && true) ≡ t
    with_true true = refl
    with_true false = refl

-- A number past a row of numbers is not in the row.
contains-before : (b first count : ℕ) → first + count ≤ b → contains (numbers_from first count) b ≡ false
contains-before b first zero h = refl
contains-before b first (suc count) h =
    rw (ne_eqb b first (omega arith)) (contains-before b (first + 1) count (omega arith))

-- A number that is no byte is not among the bytes that pass a test.
pub contains-beyond : (test : ℕ → Bool) (b : ℕ) → 256 ≤ b → contains (bytes_that_pass test) b ≡ false
unfolding bytes_that_pass
contains-beyond test b h = contains-filter test b 0 256 ∙ rw (contains-before b 0 256 (omega arith)) (with_false (test b))
  where
    with_false : (t : Bool) → (t && false) ≡ false
    with_false true = refl
    with_false false = refl

-- A number beyond ASCII is in no set of ASCII bits.
pub ascii-beyond : (bits : List ℕ) (b : ℕ) → 128 ≤ b → contains (bytes_that_pass (is_ascii_bit_set bits)) b ≡ false
ascii-beyond bits b h =
    elim (cases_lt b 256) [
      | inl below ↦ rw (contains-bytes_where (is_ascii_bit_set bits) b below, le-ltb b 128 h)
      | inr beyond ↦ contains-beyond (is_ascii_bit_set bits) b beyond
    ]

filter-same : (f g : ℕ → Bool) (first count : ℕ) → ((b : ℕ) → first ≤ b → b < first + count → f b ≡ g b)
    → filter f (numbers_from first count) ≡ filter g (numbers_from first count)
filter-same f g first zero h = refl
filter-same f g first (suc count) h =
    rw (h first (omega arith) (omega arith), filter-same f g (first + 1) count (λ b p q. h b (omega arith) (omega arith)))

-- Tests that agree on all bytes are passed by the same list of bytes.
pub bytes_where-same : (f g : ℕ → Bool) → ((b : ℕ) → b < 256 → f b ≡ g b) → bytes_that_pass f ≡ bytes_that_pass g
unfolding bytes_that_pass
bytes_where-same f g h = filter-same f g 0 256 (λ b p q. h b (omega arith))

pub bytes_where-none : (test : ℕ → Bool) → ((b : ℕ) → b < 256 → test b ≡ false) → bytes_that_pass test ≡ []
unfolding bytes_that_pass
bytes_where-none test h = filter-same test (λ b. false) 0 256 (λ b p q. h b (omega arith)) ∙ no_byte 0 256
  where
    no_byte : (first count : ℕ) → filter (λ b. false) (numbers_from first count) ≡ []
    no_byte first zero = refl
    no_byte first (suc count) = no_byte (first + 1) count

-- ---- Adding a byte

-- A read after a write gives the new value at the written place and the old value elsewhere.
written : {A : Type 0} (xs : List A) (i j : ℕ) (v d : A) → i < length xs → ((j ≡ i) × (get_or (set xs i v) j d ≡ v)) ⊎ ((j ≡ i → ⊥) × (get_or (set xs i v) j d ≡ get_or xs j d))
written xs i j v d h =
    elim (cases_eq j i) [
      | inl e ↦ inl (e, rw e (get_or-set_same xs i v d h))
      | inr ne ↦ inr (ne, get_or-set_other xs i j v d ne)
    ]

-- If a byte is set in a table, the bytes of the table are the old ones and that byte.
pub table-set : (table : List Bool) (byte : ℕ) → length table ≡ 256 → byte < 256
    → bytes_that_pass (λ b. get_or (set table byte true) b false) ≡ bytes_that_pass (λ b. b == byte || contains (bytes_that_pass (λ c. get_or table c false)) b)
table-set table byte sized h =
    bytes_where-same _ _
    (λ b within.
    rw (contains-bytes_where (λ c. get_or table c false) b within)
    (elim (written table byte b true false (omega arith)) [
      | inl w ↦ rw (w.1, eq-eqb b byte w.0)
      | inr w ↦ rw (w.1, ne_eqb b byte w.0)
    ]))

-- Reading the bit of a byte tells whether the byte is in the set.
pub is_set-read : (bits : List ℕ) (byte : ℕ) → byte < 128
    → not (eqb (bit_and (get_or bits (byte / 64) 0 / 2 ^ (byte % 64)) 1) 0) ≡ is_ascii_bit_set bits byte
is_set-read bits byte h = rw (lt-ltb byte 128 h, shr_and_one (get_or bits (byte / 64) 0) (byte % 64)) (one_or_none _ (bit_at-lt _ _))
  where
    one_or_none : (b : ℕ) → b < 2 → not (eqb b 0) ≡ eqb b 1
    one_or_none zero h = refl
    one_or_none (suc zero) h = refl
    one_or_none (suc (suc b)) h = absurd (omega arith)

-- If the bit of a byte is set in two words, their bytes are the old ones and that byte.
pub bits-set : (bits : List ℕ) (byte : ℕ) → length bits ≡ 2 → byte < 128
    → bytes_that_pass (is_ascii_bit_set (set bits (byte / 64) (bit_or (get_or bits (byte / 64) 0) (1 * 2 ^ (byte % 64) % 2 ^ 64))))
    ≡ bytes_that_pass (λ b. b == byte || contains (bytes_that_pass (is_ascii_bit_set bits)) b)
bits-set bits byte sized h =
    bytes_where-same _ _
    (λ b within.
    rw (contains-bytes_where (is_ascii_bit_set bits) b within)
    (elim (cases_lt b 128) [
      | inl below ↦ rw (lt-ltb b 128 below) (bit-set bits byte b (omega arith) ∙ or_comm (has_bit bits b) (b == byte))
      | inr above ↦ rw (le-ltb b 128 above, ne_eqb b byte (omega arith))
    ]))

pub bits-none : bytes_that_pass (is_ascii_bit_set (0 ∷ 0 ∷ [])) ≡ []
bits-none = bytes_where-none _ (λ b within. and_right (nat_lt b 128) (has_bit (0 ∷ 0 ∷ []) b) (no-bits 2 b))

pub table-none : bytes_that_pass (λ b. get_or (replicate 256 false) b false) ≡ []
table-none = bytes_where-none _ (λ b within. get_or-replicate 256 b)
  where
    get_or-replicate : (n b : ℕ) → get_or (replicate n false) b false ≡ false
    get_or-replicate zero b = refl
    get_or-replicate (suc n) zero = refl
    get_or-replicate (suc n) (suc b) = get_or-replicate n b
