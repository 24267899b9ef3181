-- A comparison of 32 masked units marks exactly those that have the given bits.
use Rattle.std.proofs.Common.{◌≡◌, ℕ, ◌+◌, ◌-◌, ◌%◌, ◌^◌, ◌<◌, ◌≤◌, ◌==◌, List, [], ◌∷◌, zero, suc, Fits, w8, Bool, true, false, cond, eqb}
use Rattle.std.proofs.Common.{length, get_or, map, replicate, refl, sym, ap, subst, ◌∙◌, arith, bit_and}
use Rattle.std.specs.Prelude.{slice_index}
use Rattle.std.specs.Int.{bit_at}
use Rattle.std.specs.Simd.Lanes.{chunk, zip2, mask_l, top, Each1}
use Rattle.std.proofs.lemmas.Simd.{length-chunk, get_or-chunk, length-zip2, get_or-zip2, length-replicate, get_or-replicate, bitmask_splat, bit_mask_l}
use Rattle.std.proofs.lemmas.List.{length-map, get_or-map, get_or_past, map-id}
use Rattle.std.proofs.lemmas.Bool.{cases_lt, ne_eqb}
use Rattle.std.proofs.lemmas.Nat.{and_assoc, and_le_l, and_le_r}
use Rattle.std.proofs.lemmas.Nat.Bits.{bit_at-zero}
use Rattle.std.proofs.lemmas.Grind.{numeral_and, and_numeral}
use Rattle.std.proofs.Math.Nat.{mod-eq_of_lt}
use mathlib.Core.Logic.{inl, inr}
use mir.Syntax.{Width}
use mir.Val as val
use Rattle.regress_input.specs.TextCodeUnits.{has_bits, MarksUnitsWithBits}

one-if : (b : Bool) → b ≡ (cond {A = ℕ} b 1 0 == 1)
one-if true = refl
one-if false = refl

-- This is what `to_bitmask` yields for the comparison of 32 masked units.
abbrev pub compared : Width → (us : List ℕ) (at mask bits : ℕ) → ℕ
compared w us at mask bits =
    mask_l (map (top (val.hbits w)) (zip2 (λ a b. cond (eqb a b) (2 ^ val.bits w - 1) 0) (zip2 bit_and (chunk at 32 us) (replicate 32 mask)) (replicate 32 bits))) % 2 ^ 64

pub compared-marks : (w : Width) (us : List ℕ) (at mask bits : ℕ) → at + 32 ≤ length us → MarksUnitsWithBits us at mask bits (compared w us at mask bits)
compared-marks w us at mask bits room = record { each = each; within = within }
  where
    v : List ℕ
    v = zip2 bit_and (chunk at 32 us) (replicate 32 mask)

    read : length (chunk at 32 us) ≡ 32
    read = length-chunk at 32 us room

    long : length v ≡ 32
    long = length-zip2 bit_and (chunk at 32 us) (replicate 32 mask) (read ∙ sym (length-replicate 32 mask)) ∙ read

    bit : (i : ℕ) → bit_at (compared w us at mask bits) i ≡ cond (get_or (map (λ x. eqb x bits) v) i false) 1 0
    bit i = ap (λ n. bit_at n i) (bitmask_splat w eqb v 32 bits long (omega arith)) ∙ bit_mask_l (map (λ x. eqb x bits) v) i

    there : (i : ℕ) → i < 32 → get_or v i 0 ≡ bit_and (slice_index us (at + i)) mask
    there i less =
        get_or-zip2 bit_and (chunk at 32 us) (replicate 32 mask) i 0 0 0 (omega (arith, less, read)) (omega (arith, less, length-replicate 32 mask))
        ∙ (λ j. bit_and (get_or-chunk at 32 us i 0 less j) (get_or-replicate 32 i mask 0 less j))

    each : (i : ℕ) → i < 32 → has_bits mask bits (slice_index us (at + i)) ≡ (bit_at (compared w us at mask bits) i == 1)
    each i less =
        let same : get_or (map (λ x. eqb x bits) v) i false ≡ has_bits mask bits (slice_index us (at + i)) =
        get_or-map (λ x. eqb x bits) v i 0 false (omega (arith, less, long)) ∙ ap (λ x. eqb x bits) (there i less) in
        sym same ∙ one-if (get_or (map (λ x. eqb x bits) v) i false) ∙ ap (λ n. n == 1) (sym (bit i))

    within : (i : ℕ) → bit_at (compared w us at mask bits) i ≡ 1 → i < 32
    within i set = elim (cases_lt i 32) [
      | inl less ↦ less
      | inr past ↦
          let none : get_or (map (λ x. eqb x bits) v) i false ≡ false = get_or_past (map (λ x. eqb x bits) v) i false (omega (arith, past, long, length-map v (λ x. eqb x bits))) in
          let zero : bit_at (compared w us at mask bits) i ≡ 0 = bit i ∙ ap (λ b. cond b 1 0) none in
          absurd (omega (arith, set, zero))
    ]

-- ---- Bytes

module _ (us : List ℕ) (bytes : (k : ℕ) → k < length us → slice_index us k < 256) (at mask bits : ℕ) (room : at + 32 ≤ length us) where
  -- If `bits` is greater than 255, no byte has these bits, so nothing is marked.
  pub marks-none : 255 < bits → MarksUnitsWithBits us at mask bits 0
  marks-none wide = record {
    each = λ i less.
        let small = bytes (at + i) (omega (arith, less, room)) in
        let part = and_le_l (slice_index us (at + i)) mask in
        ne_eqb (bit_and (slice_index us (at + i)) mask) bits (λ same. omega (arith, small, part, same, wide)) ∙ ap (λ n. n == 1) (sym (bit_at-zero i));
    within = λ i set. let zero = bit_at-zero i in absurd (omega (arith, zero, set));
  }

  narrow : (u : ℕ) → u < 256 → bit_and u (mask % 256) ≡ bit_and u mask
  narrow u small =
      let low : bit_and 255 mask ≡ mask % 256 = numeral_and 254 mask refl in
      let own : bit_and u 255 ≡ u = and_numeral u 254 refl ∙ mod-eq_of_lt small in
      ap (bit_and u) (sym low) ∙ sym (and_assoc mask u 255) ∙ ap (λ n. bit_and n mask) own

  pub marks-narrow : (marks : ℕ) → MarksUnitsWithBits us at (mask % 256) bits marks → MarksUnitsWithBits us at mask bits marks
  marks-narrow marks are = record {
    each = λ i less. ap (λ n. n == bits) (sym (narrow (slice_index us (at + i)) (bytes (at + i) (omega (arith, less, room))))) ∙ are.each i less;
    within = are.within;
  }

-- ---- 16-bit units that a mask makes bytes

masked-fit : (us : List ℕ) (n mask : ℕ) → mask ≤ 255 → Each1 (Fits w8) (zip2 bit_and us (replicate n mask))
masked-fit [] n mask byte = tt
masked-fit (u ∷ us) zero mask byte = tt
masked-fit (u ∷ us) (suc n) mask byte = (record { fits = let part = and_le_r u mask in omega (arith, part, byte) }, masked-fit us n mask byte)

module _ (us : List ℕ) (at mask bits : ℕ) where
  -- This is what the packed units yield.
  abbrev pub packed : ℕ
  packed = mask_l (map (top (val.hbits w8)) (zip2 (λ a b. cond (eqb a b) (2 ^ val.bits w8 - 1) 0) (map (λ a. a) (zip2 bit_and (chunk at 32 us) (replicate 32 mask))) (replicate 32 bits))) % 2 ^ 64

  pub packed-fit : mask ≤ 255 → Each1 (Fits w8) (zip2 bit_and (chunk at 32 us) (replicate 32 mask))
  packed-fit = masked-fit (chunk at 32 us) 32 mask

  pub packed-marks : at + 32 ≤ length us → MarksUnitsWithBits us at mask bits packed
  packed-marks room =
      let v = zip2 bit_and (chunk at 32 us) (replicate 32 mask) in
      let same = ap (λ v. mask_l (map (top (val.hbits w8)) (zip2 (λ a b. cond (eqb a b) (2 ^ val.bits w8 - 1) 0) v (replicate 32 bits))) % 2 ^ 64) (map-id v) in
      subst (MarksUnitsWithBits us at mask bits) (sym same) (compared-marks w8 us at mask bits room)
