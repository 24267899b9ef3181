-- Setting a bit in a list of 64-bit words sets that bit and keeps all others.
use Rattle.std.proofs.Common.{◌≡◌, ℕ, zero, suc, ◌*◌, ◌/◌, ◌%◌, ◌^◌, ◌<◌, Bool, true, false, ◌||◌, List, length, get_or, set, replicate, refl, sym, ap, arith, ⊎_elim, bit_or, w64, get_or-set_same}
use Rattle.std.proofs.Common.{get_or-set_other}
use Rattle.std.specs.Prelude.{◌==◌}
use Rattle.std.specs.Int.{bit_at}
use Rattle.std.proofs.lemmas.Bool.{cases_eq, ne_eqb, eq-eqb, or_right}
use Rattle.std.proofs.lemmas.Nat.Bits.{bit_at_set_same, bit_at_set_other, bit_at-zero}
use Rattle.std.proofs.Math.Bool.{or-false}

-- This is whether the bit of a number is set.
abbrev pub has_bit : (words : List ℕ) → ℕ → Bool
has_bit words k = bit_at (get_or words (k / 64) 0) (k % 64) == 1

-- This is the list of words with the bit of `n` set.
abbrev pub with_bit : (words : List ℕ) → ℕ → List ℕ
with_bit words n = set words (n / 64) (bit_or (get_or words (n / 64) 0) (1 * 2 ^ (n % 64) % 2 ^ 64))

pub no-bits : (n k : ℕ) → has_bit (replicate n 0) k ≡ false
no-bits n k = rw (zeros n (k / 64), bit_at-zero (k % 64)) refl
  where
    zeros : (m i : ℕ) → ◌≡◌ {A = ℕ} (get_or (replicate m 0) i 0) 0
    zeros zero i = refl
    zeros (suc m) zero = refl
    zeros (suc m) (suc i) = zeros m i

pub bit-set : (words : List ℕ) (n k : ℕ) → n / 64 < length words → has_bit (with_bit words n) k ≡ (has_bit words k || k == n)
bit-set words n k within = ⊎_elim (λ (e : k / 64 ≡ n / 64). same_word e) (λ (ne : k / 64 ≡ n / 64 → ⊥). other_word ne) (cases_eq (k / 64) (n / 64))
  where
    same_number : (x y : ℕ) → x / 64 ≡ y / 64 → x % 64 ≡ y % 64 → x ≡ y
    same_number x y p q = omega arith

    same_word : k / 64 ≡ n / 64 → has_bit (with_bit words n) k ≡ (has_bit words k || k == n)
    same_word e =
        rw (e, get_or-set_same)
        (⊎_elim (λ (f : k % 64 ≡ n % 64).
        rw (f, bit_at_set_same w64 (get_or words (n / 64) 0) (n % 64) (omega arith), eq-eqb k n (same_number k n e f)) (sym (or_right _ true refl)))
        (λ (ne : k % 64 ≡ n % 64 → ⊥).
        rw (bit_at_set_other w64 (get_or words (n / 64) 0) (n % 64) (omega arith) (k % 64) ne, ne_eqb k n (λ g. ne (ap (λ i. i % 64) g))) (sym (or-false _)))
        (cases_eq (k % 64) (n % 64)))

    other_word : (k / 64 ≡ n / 64 → ⊥) → has_bit (with_bit words n) k ≡ (has_bit words k || k == n)
    other_word ne = rw (get_or-set_other, ne_eqb k n (λ g. ne (ap (λ i. i / 64) g))) (sym (or-false _))
