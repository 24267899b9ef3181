-- The first UTF-8 bytes of the code points of an interval lie between those of its ends.
use Rattle.std.proofs.Common.{◌≡◌, ℕ, ◌+◌, ◌-◌, ◌*◌, ◌/◌, ◌<◌, ◌≤◌, min, Bool, true, false, [], ◌∷◌, Some, slice_get, refl, sym, ◌∙◌, arith, inl, inr}
use Rattle.std.specs.Prelude.{nat_lt, nat_le, ◌==◌, ◌&&◌, ◌||◌}
use mathlib.Core.Logic.{◌⊎◌}
use Rattle.std.specs.Char.{encode_utf8 as encode}
use Rattle.std.specs.Int.{is_in_range}
use Rattle.std.proofs.lemmas.Bool.{cond_both, cases_lt, lt-ltb, le-ltb, ltb-true, eqb-true, leb-true, false_from_ne_true}
use Rattle.std.proofs.Math.Bool.{or-false}
use Rattle.regex_meaning.specs.Tree.{Intervals}
use Rattle.regex_meaning.specs.StartPredicate.{chars_with_first_byte, intersects}
use Rattle.regex_meaning.proofs.BoolLemmas.{and-left, and-right}
use Rattle.regex_meaning.proofs.FirstByteOfCharacter.{true-in_range}
use Rattle.regex_meaning.proofs.OptionLemmas.{some-same}

-- The first byte of a code point depends on how many bytes encode the code point.
abbrev IsFirstByte : (c b : ℕ) → Type 0
IsFirstByte c b =
    ((c < 0x80) × (b ≡ c)) ⊎ (((0x80 ≤ c) × (c < 0x800) × (b ≡ 0xC0 + c / 0x40))
    ⊎ (((0x800 ≤ c) × (c < 0x1_0000) × (b ≡ 0xE0 + c / 0x1000)) ⊎ ((0x1_0000 ≤ c) × (b ≡ 0xF0 + c / 0x4_0000))))

first_byte : (c b : ℕ) → slice_get (encode c) 0 ≡ Some b → IsFirstByte c b
unfolding encode
first_byte c b e = go (cases_lt c 128) (cases_lt c 2048) (cases_lt c 65536)
  where
    go : (c < 128) ⊎ (128 ≤ c) → (c < 2048) ⊎ (2048 ≤ c) → (c < 65536) ⊎ (65536 ≤ c) → IsFirstByte c b
    go (inl h) k l = inl (h, some-same b c (sym e ∙ rw (lt-ltb c 128 h)))
    go (inr h) (inl k) l = inr (inl (h, k, some-same b (192 + c / 64) (sym e ∙ rw (le-ltb c 128 h, lt-ltb c 2048 k))))
    go (inr h) (inr k) (inl l) = inr (inr (inl (k, l, some-same b (224 + c / 4096) (sym e ∙ rw (le-ltb c 128 h, le-ltb c 2048 k, lt-ltb c 65536 l)))))
    go (inr h) (inr k) (inr l) = inr (inr (inr (l, some-same b (240 + c / 262144) (sym e ∙ rw (le-ltb c 128 h, le-ltb c 2048 k, le-ltb c 65536 l)))))

rises : (c d x y : ℕ) → IsFirstByte c x → IsFirstByte d y → c ≤ d → x ≤ y
rises c d x y first second h = grind arith

-- If two intervals meet, each begins no later than the other ends.
meets-one : (lo hi first last : ℕ) → intersects ((lo, hi) ∷ []) ((first, last) ∷ []) ≡ true → (first ≤ hi) × (lo ≤ last)
meets-one lo hi first last e =
    let t : meets ≡ true = sym (or-false (meets || false) ∙ or-false meets) ∙ e in
    (leb-true first hi (and-right (holding && nat_le lo last) (nat_le first hi) t), leb-true lo last (and-right holding (nat_le lo last) (and-left (holding && nat_le lo last) (nat_le first hi) t)))
  where
    holding : Bool
    holding = nat_le lo hi && nat_le first last

    meets : Bool
    meets = (holding && nat_le lo last) && nat_le first hi

-- The two bytes are the first bytes of the interval's ends, which count as at most U+10FFFF.
record Ends (first last least greatest : ℕ) : Type 0 where
  from : IsFirstByte (min first 0x10_FFFF) least
  to : IsFirstByte (min last 0x10_FFFF) greatest

-- If these code points meet the interval, the byte `b` is between the bytes of its ends.
abbrev Between : (first last least greatest b : ℕ) → Intervals → Type 0
Between first last least greatest b begun = intersects begun ((first, last) ∷ []) ≡ true → (least ≤ b) × (b ≤ greatest)

between : (first last least greatest b lo hi : ℕ) → Ends first last least greatest → lo ≤ 0x10_FFFF → IsFirstByte lo b → IsFirstByte hi b
    → Between first last least greatest b ((lo, hi) ∷ [])
between first last least greatest b lo hi ends within from to m =
    let r = meets-one lo hi first last m in
    (rises (min first 0x10_FFFF) hi least b ends.from to (omega (arith, r.0)), rises lo (min last 0x10_FFFF) b greatest from ends.to (omega (arith, r.1)))

all-between : (first last least greatest b : ℕ) → Ends first last least greatest → Between first last least greatest b (chars_with_first_byte b)
all-between first last least greatest b ends =
    let P = Between first last least greatest b in
    let of = λ (lo hi : ℕ). between first last least greatest b lo hi ends in
    cond_both (nat_lt b 0x80) _ _ P
    (λ t. let h = ltb-true b 0x80 t in of b b (omega arith) (inl (h, refl)) (inl (h, refl)))
    (λ t1. cond_both (is_in_range 0xC2 0xDF b) _ _ P
    (λ t. let r = true-in_range 0xC2 0xDF b t in
    of ((b - 0xC0) * 0x40) ((b - 0xC0) * 0x40 + 0x3F) (omega arith) (inr (inl (omega arith, omega arith, omega arith))) (inr (inl (omega arith, omega arith, omega arith))))
    (λ t2. cond_both (b == 0xE0) _ _ P
    (λ t. let h = eqb-true b 0xE0 t in of 0x800 0xFFF (omega arith) (inr (inr (inl (omega arith, omega arith, omega arith)))) (inr (inr (inl (omega arith, omega arith, omega arith)))))
    (λ t3. cond_both (is_in_range 0xE1 0xEF b) _ _ P
    (λ t. let r = true-in_range 0xE1 0xEF b t in
    of ((b - 0xE0) * 0x1000) ((b - 0xE0) * 0x1000 + 0xFFF) (omega arith) (inr (inr (inl (omega arith, omega arith, omega arith)))) (inr (inr (inl (omega arith, omega arith, omega arith)))))
    (λ t4. cond_both (b == 0xF0) _ _ P
    (λ t. let h = eqb-true b 0xF0 t in of 0x1_0000 0x3_FFFF (omega arith) (inr (inr (inr (omega arith, omega arith)))) (inr (inr (inr (omega arith, omega arith)))))
    (λ t5. cond_both (is_in_range 0xF1 0xF3 b) _ _ P
    (λ t. let r = true-in_range 0xF1 0xF3 b t in
    of ((b - 0xF0) * 0x4_0000) ((b - 0xF0) * 0x4_0000 + 0x3_FFFF) (omega arith) (inr (inr (inr (omega arith, omega arith)))) (inr (inr (inr (omega arith, omega arith)))))
    (λ t6. cond_both (b == 0xF4) _ _ P
    (λ t. let h = eqb-true b 0xF4 t in of 0x10_0000 0x10_FFFF (omega arith) (inr (inr (inr (omega arith, omega arith)))) (inr (inr (inr (omega arith, omega arith)))))
    (λ t7 m. absurd (let k : false ≡ true = m in cc))))))))

-- A byte outside those of the ends begins no code point of the interval.
pub none-outside : (first last low high least greatest : ℕ) → low ≡ min first 0x10_FFFF → high ≡ min last 0x10_FFFF
    → slice_get (encode low) 0 ≡ Some least → slice_get (encode high) 0 ≡ Some greatest
    → (b : ℕ) → (b < least) ⊎ (greatest < b) → intersects (chars_with_first_byte b) ((first, last) ∷ []) ≡ false
none-outside first last low high least greatest p q e f b outside =
    false_from_ne_true _ (λ m. out (all-between first last least greatest b ends m) outside)
  where
    ends : Ends first last least greatest
    ends = record { from = first_byte _ _ (rw p at e); to = first_byte _ _ (rw q at f) }

    out : (least ≤ b) × (b ≤ greatest) → (b < least) ⊎ (greatest < b) → ⊥
    out r (inl below) = omega (arith, r.0)
    out r (inr above) = omega (arith, r.1)
