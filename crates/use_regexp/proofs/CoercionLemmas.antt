-- The conversions of a script's numbers, by the tests in `src/coercions.rt`.
use Rattle.std.specs.Prelude.{◌≡◌, ◌+◌, ◌*◌, ◌-◌, ◌/◌, ◌%◌, ◌^◌, ◌<◌, ◌≤◌, ℕ, ℤ, zero, suc, pos, negsuc, min, Bool, true, false, ◌&&◌, Option, Some, None, unsigned_abs}
use Rattle.std.specs.Float.{Float, binary64, nan, inf, fin, float_with_sign, float_zero}
use Rattle.std.specs.Float.Ieee.{up, down, lt, fits, of_bits, to_unsigned}
use Rattle.std.specs.Int.{FitsUnsignedBits}
use Rattle.std.proofs.Common.{refl, ap, sym, subst, ◌∙◌, arith, true≢false, ltb-false, ltb-true}
use Rattle.std.proofs.Math.Dec.{ltb}
use Rattle.std.proofs.Math.Nat.{div-le_self, div-one, lt_of_le_of_lt, lt_of_lt_of_le, mul-mod_left, mul_assoc, zero-div, zero-mul}
use Rattle.std.proofs.Math.Pow.{pow-add, pow_mono, shl_lt}
use Rattle.num_traits.specs.Laws.{Casts}
use Rattle.num_traits.specs.Floats.{whole_part}
use Rattle.use_regexp.specs.Coercions.{length_of, size_modulo_2_32, uint32_from_number}

pub length-by_min : (x : Float) (n r : ℕ) → n ≡ to_unsigned 64 x → r ≡ min n 9007199254740991 → r ≡ length_of x
unfolding to_unsigned
length-by_min nan n r a b = omega (arith, a, b)
length-by_min (inf true) n r a b = omega (arith, a, b)
length-by_min (inf false) n r a b = omega (arith, a, b)
length-by_min (fin true m e) n r a b = omega (arith, a, b)
length-by_min (fin false m e) n r a b = omega (arith, a, b)

-- ---- The absolute value, which `to_u128` returns if it is less than 2 ^ 128

abbrev pub AsU128 : Float → Option ℕ → Type 0
AsU128 x r = Casts (λ n. pos n) (FitsUnsignedBits 128) (whole_part x) r

pub size-some : (x y : Float) (n : ℕ) → y ≡ float_with_sign false x → AsU128 y (Some n) → n % 4294967296 ≡ size_modulo_2_32 x
unfolding float_with_sign
size-some x y n is h = by x (subst (λ (k : Float). AsU128 k (Some n)) is h)
  where
    by : (z : Float) → AsU128 (float_with_sign false z) (Some n) → n % 4294967296 ≡ size_modulo_2_32 z
    by nan g = absurd (true≢false g.1)
    by (inf s) g = absurd (true≢false g.1)
    by (fin s m e) g = ap (λ (z : ℤ). unsigned_abs z % 2 ^ 32) g.0.1

-- A multiple of 2 ^ 32.
multiple : (m k : ℕ) → 75 ≤ k → m * 2 ^ k / 1 % 2 ^ 32 ≡ 0
multiple m k h =
    ap (λ (n : ℕ). n % 2 ^ 32) (div-one (m * 2 ^ k))
    ∙ ap (λ (n : ℕ). m * 2 ^ n % 2 ^ 32) (sym (rejoin k h))
    ∙ ap (λ (n : ℕ). m * n % 2 ^ 32) (pow-add 2 (k - 32) 32)
    ∙ ap (λ (n : ℕ). n % 2 ^ 32) (sym (mul_assoc m (2 ^ (k - 32)) (2 ^ 32)))
    ∙ mul-mod_left (m * 2 ^ (k - 32)) (2 ^ 32)
  where
    rejoin : (k : ℕ) → 75 ≤ k → (k - 32) + 32 ≡ k
    rejoin k h = omega arith

second : (a b c d : Bool) → (a && b && c && d) ≡ true → b ≡ true
second true true c d h = refl
second true false c d h = h
second false b c d h = absurd (true≢false (sym h))

digits-below : (s : Bool) (m : ℕ) (e : ℤ) → fits binary64 (fin s (suc m) e) ≡ true → suc m < 2 ^ 53
unfolding fits
digits-below s m e h = ltb-true _ _ (second _ _ _ _ h)

-- A number of the format that is 2 ^ 128 or more is a multiple of 2 ^ 32.
large : (s : Bool) (m : ℕ) (e : ℤ) → fits binary64 (fin s m e) ≡ true → ¬ (m * up e / down e < 2 ^ 128) → 0 ≡ m * up e / down e % 2 ^ 32
large s zero e f g = sym (ap (λ (n : ℕ). n / down e % 2 ^ 32) (zero-mul (up e)) ∙ ap (λ (n : ℕ). n % 2 ^ 32) (zero-div (down e)))
large s (suc m) (negsuc k) f g = absurd (g (lt_of_le_of_lt (div-le_self (suc m * 1) (2 ^ suc k)) (omega (arith, digits-below s m (negsuc k) f))))
large s (suc m) (pos k) f g = by (ltb k 75) refl
  where
    under : k < 75 → suc m * 2 ^ k < 2 ^ 128
    under h =
        let room : 53 + k ≤ 128 = omega (arith, h) in
        lt_of_lt_of_le (shl_lt 53 k (digits-below s m (pos k) f)) (pow_mono {j = 128} room)

    by : (b : Bool) → ltb k 75 ≡ b → 0 ≡ suc m * 2 ^ k / 1 % 2 ^ 32
    by true t = absurd (g (subst (λ (n : ℕ). n < 2 ^ 128) (sym (div-one (suc m * 2 ^ k))) (under (ltb-true _ _ t))))
    by false t = sym (multiple (suc m) k (ltb-false _ _ t))

pub size-none : (x y : Float) → y ≡ float_with_sign false x → fits binary64 y ≡ true → AsU128 y None → 0 ≡ size_modulo_2_32 x
unfolding float_with_sign
size-none x y is f h = by x (subst (λ (k : Float). fits binary64 k ≡ true) is f) (subst (λ (k : Float). AsU128 k None) is h)
  where
    by : (z : Float) → fits binary64 (float_with_sign false z) ≡ true → AsU128 (float_with_sign false z) None → 0 ≡ size_modulo_2_32 z
    by nan f g = refl
    by (inf s) f g = refl
    by (fin s m e) f g = large false m e f g.0

-- ---- The sign

zero_is : of_bits binary64 0 ≡ float_zero
unfolding of_bits
zero_is = refl

opposite : (r size : ℕ) → r < 4294967296 → size < 4294967296 → (r + size) % 4294967296 ≡ 0 → r ≡ (4294967296 - size) % 4294967296
opposite r size a b h = omega (arith, a, b, h)

pub negative-uint32 : (x : Float) (r size : ℕ) → lt x (of_bits binary64 0) ≡ true → r < 4294967296 → size < 4294967296
    → size ≡ size_modulo_2_32 x → (r + size) % 4294967296 ≡ 0 → r ≡ uint32_from_number x
unfolding lt
negative-uint32 x r size t a b is h = by x (sym (ap (lt x) zero_is) ∙ t) is
  where
    by : (z : Float) → lt z float_zero ≡ true → size ≡ size_modulo_2_32 z → r ≡ uint32_from_number z
    by nan u k = absurd (true≢false (sym u))
    by (inf s) u k = omega (arith, a, b, h, k)
    by (fin false m e) u k = absurd (omega (arith, ltb-true _ _ u))
    by (fin true m e) u k = opposite r size a b h ∙ ap (λ (n : ℕ). (2 ^ 32 - n) % 2 ^ 32) k

pub other-uint32 : (x : Float) (size : ℕ) → lt x (of_bits binary64 0) ≡ false → size ≡ size_modulo_2_32 x → size ≡ uint32_from_number x
unfolding lt
other-uint32 x size t is = by x (sym (ap (lt x) zero_is) ∙ t) is
  where
    by : (z : Float) → lt z float_zero ≡ false → size ≡ size_modulo_2_32 z → size ≡ uint32_from_number z
    by nan u k = k
    by (inf s) u k = k
    by (fin false m e) u k = k
    by (fin true m e) u k =
        let none : (m * up e) ≡ 0 = omega (arith, ltb-false _ _ u) in
        let small : (m * up e / down e % 2 ^ 32) ≡ 0 = ap (λ (n : ℕ). n / down e % 2 ^ 32) none ∙ ap (λ (n : ℕ). n % 2 ^ 32) (zero-div (down e)) in
        (k ∙ small) ∙ ap (λ (n : ℕ). (2 ^ 32 - n) % 2 ^ 32) (sym small)
