-- Reading at a boundary of a UTF-8 text yields the character that its bytes encode.
use Rattle.std.proofs.Common.{◌≡◌, ℕ, zero, suc, ◌+◌, ◌-◌, ◌*◌, ◌<◌, ◌≤◌, ◌≢◌, ◌/◌, ◌⊎◌, inl, inr, ⊎_elim, ltb, lt-ltb, le-ltb, List, [], ◌∷◌, ◌++◌, ◌&&◌, Some, None, length, get_or, flat_map}
use Rattle.std.proofs.Common.{slice_get, Bool, true, false, IsUtf8, chars, refl, sym, ◌∙◌, ap, ap₂}
use Rattle.std.proofs.Common.{subst, arith, length-append, length-drop, get_or-drop}
use Rattle.std.proofs.lemmas.Bool.{cases_lt}
use Rattle.std.specs.Char.{IsScalar, len_utf8}
use Rattle.std.proofs.lemmas.Str.{encodes-chars, scalars-chars, IsUtf8-had, length-encode}
use lib.Utf8.{scalar, scalars, encode, encodes, next, scalar_cases}
use Rattle.regex_meaning.specs.Text.{Text, utf8_text, rightwards, leftwards, fold_char}
use Rattle.regex_meaning.specs.CodeUnitOffsets.{IsBoundary, units, read}
use Rattle.regress_input.specs.Utf8.{IsEncodedAt, IsEncodedBetween}
use Rattle.regress_input.proofs.SpelledTextLemmas.{ReadsRight, ReadsLeft, reads_right, reads_left, at_end, before_character, at_start, behind_character}
use Rattle.regex_meaning.proofs.CodeUnitLengthLemmas.{utf8_text-units}
use Rattle.regex_meaning.proofs.CodeUnitOffsetsLemmas.{len_utf8-positive}
use Rattle.regex_meaning.proofs.FirstByteOfCharacter.{encode-1}

-- The byte continues a character.
abbrev pub Follows : ℕ → Type 0
Follows b = (128 ≤ b) × (b < 192)

follows : (x : ℕ) → Follows (next x)
follows x = (omega arith, omega arith)

-- A character is encoded at an offset by one, two, three or four bytes.
pub data Bytes (bytes : List ℕ) (at c : ℕ) : Type 0 where
  one : at + 1 ≤ length bytes → len_utf8 c ≡ 1 → get_or bytes at 0 < 128 → get_or bytes at 0 ≡ c → Bytes bytes at c
  two : at + 2 ≤ length bytes → len_utf8 c ≡ 2 → 192 ≤ get_or bytes at 0 → get_or bytes at 0 < 224 → Follows (get_or bytes (at + 1) 0)
      → c + 12416 ≡ get_or bytes at 0 * 64 + get_or bytes (at + 1) 0 → Bytes bytes at c
  three : at + 3 ≤ length bytes → len_utf8 c ≡ 3 → 224 ≤ get_or bytes at 0 → get_or bytes at 0 < 240
      → Follows (get_or bytes (at + 1) 0) → Follows (get_or bytes (at + 2) 0)
      → c + 925824 ≡ get_or bytes at 0 * 4096 + get_or bytes (at + 1) 0 * 64 + get_or bytes (at + 2) 0 → Bytes bytes at c
  four : at + 4 ≤ length bytes → len_utf8 c ≡ 4 → 240 ≤ get_or bytes at 0 → get_or bytes at 0 < 248
      → Follows (get_or bytes (at + 1) 0) → Follows (get_or bytes (at + 2) 0) → Follows (get_or bytes (at + 3) 0)
      → c + 63447168 ≡ get_or bytes at 0 * 262144 + get_or bytes (at + 1) 0 * 4096 + get_or bytes (at + 2) 0 * 64 + get_or bytes (at + 3) 0 → Bytes bytes at c

pub encode_two : (c : ℕ) → 128 ≤ c → c < 2048 → encode c ≡ (192 + c / 64) ∷ next c ∷ []
unfolding encode
encode_two c l h =
    let a : ltb c 128 ≡ false = le-ltb _ _ l in
    let b : ltb c 2048 ≡ true = lt-ltb _ _ h in rw (a, b) refl

pub encode_three : (c : ℕ) → 2048 ≤ c → c < 65536 → encode c ≡ (224 + c / 4096) ∷ next (c / 64) ∷ next c ∷ []
unfolding encode
encode_three c l h =
    let a : ltb c 128 ≡ false = le-ltb _ _ (omega arith) in
    let b : ltb c 2048 ≡ false = le-ltb _ _ l in
    let d : ltb c 65536 ≡ true = lt-ltb _ _ h in rw (a, b, d) refl

pub encode_four : (c : ℕ) → 65536 ≤ c → encode c ≡ (240 + c / 262144) ∷ next (c / 4096) ∷ next (c / 64) ∷ next c ∷ []
unfolding encode
encode_four c l =
    let a : ltb c 128 ≡ false = le-ltb _ _ (omega arith) in
    let b : ltb c 2048 ≡ false = le-ltb _ _ (omega arith) in
    let d : ltb c 65536 ≡ false = le-ltb _ _ l in rw (a, b, d) refl

below_top : (c : ℕ) → IsScalar c → c < 1114112
below_top c s = ⊎_elim (λ h. omega arith) (λ h. h.1) (scalar_cases c s)

pub bytes_at : (bytes : List ℕ) (at c : ℕ) → IsEncodedAt bytes at c → Bytes bytes at c
bytes_at bytes at c s = by (cases_lt c 128) (cases_lt c 2048) (cases_lt c 65536)
  where
    -- A byte from the offset on is the byte with the same index in the encoding and what follows.
    seen : (p : List ℕ) (i : ℕ) → encode c ≡ p → get_or bytes (at + i) 0 ≡ get_or (p ++ s.rest) i 0
    seen p i e = sym (get_or-drop at bytes i 0) ∙ ap (λ l. get_or l i 0) (s.spelled ∙ ap (λ l. l ++ s.rest) e)

    seen0 : (p : List ℕ) → encode c ≡ p → get_or bytes at 0 ≡ get_or (p ++ s.rest) 0 0
    seen0 p e = let z : at ≡ at + 0 = omega arith in ap (λ n. get_or bytes n 0) z ∙ seen p 0 e

    fits : (p : List ℕ) → encode c ≡ p → 0 < length p → at + length p ≤ length bytes
    fits p e some = omega (arith, ap length s.spelled, length-drop at bytes, length-append (encode c) s.rest, ap length e)

    long : (p : List ℕ) → encode c ≡ p → len_utf8 c ≡ length p
    long p e = sym (length-encode c) ∙ ap length e

    follows_as : (b x : ℕ) → b ≡ next x → Follows b
    follows_as b x e = (omega arith, omega arith)

    by : (c < 128) ⊎ (128 ≤ c) → (c < 2048) ⊎ (2048 ≤ c) → (c < 65536) ⊎ (65536 ≤ c) → Bytes bytes at c
    by (inl h) _ _ =
        let e = encode-1 c h in
        one (fits _ e (omega arith)) (long _ e) (omega (arith, h, seen0 _ e)) (seen0 _ e)
    by (inr l) (inl h) _ =
        let e = encode_two c l h in
        let x : get_or bytes at 0 ≡ 192 + c / 64 = seen0 _ e in
        let y : get_or bytes (at + 1) 0 ≡ next c = seen _ 1 e in
        two (fits _ e (omega arith)) (long _ e) (omega arith) (omega arith) (follows_as _ c y) (omega arith)
    by (inr _) (inr l) (inl h) =
        let e = encode_three c l h in
        let x : get_or bytes at 0 ≡ 224 + c / 4096 = seen0 _ e in
        let y : get_or bytes (at + 1) 0 ≡ next (c / 64) = seen _ 1 e in
        let z : get_or bytes (at + 2) 0 ≡ next c = seen _ 2 e in
        three (fits _ e (omega arith)) (long _ e) (omega arith) (omega arith) (follows_as _ (c / 64) y) (follows_as _ c z) (omega arith)
    by (inr _) (inr _) (inr l) =
        let e = encode_four c l in
        let top : c < 1114112 = below_top c s.scalar in
        let x : get_or bytes at 0 ≡ 240 + c / 262144 = seen0 _ e in
        let y : get_or bytes (at + 1) 0 ≡ next (c / 4096) = seen _ 1 e in
        let z : get_or bytes (at + 2) 0 ≡ next (c / 64) = seen _ 2 e in
        let v : get_or bytes (at + 3) 0 ≡ next c = seen _ 3 e in
        four (fits _ e (omega arith)) (long _ e) (omega arith) (omega arith) (follows_as _ (c / 4096) y) (follows_as _ (c / 64) z) (follows_as _ c v) (omega arith)

-- The first byte of a character tells how many bytes there are at least.
pub all_inside : (bytes : List ℕ) (at : ℕ) → (c : ℕ) × IsEncodedAt bytes at c
    → (at < length bytes) × (128 ≤ get_or bytes at 0 → at + 1 < length bytes) × (224 ≤ get_or bytes at 0 → at + 2 < length bytes)
    × (240 ≤ get_or bytes at 0 → at + 3 < length bytes)
all_inside bytes at (c, s) = elim (bytes_at bytes at c s) [
  | one l n h e ↦ (omega arith, λ m. absurd (omega arith), λ m. absurd (omega arith), λ m. absurd (omega arith))
  | two l n h i f e ↦ (omega arith, λ m. omega arith, λ m. absurd (omega arith), λ m. absurd (omega arith))
  | three l n h i f g e ↦ (omega arith, λ m. omega arith, λ m. omega arith, λ m. absurd (omega arith))
  | four l n h i f g k e ↦ (omega arith, λ m. omega arith, λ m. omega arith, λ m. omega arith)
]

-- The bytes of a character tell which character it is and where it ends.
pub is_one : (bytes : List ℕ) (at c : ℕ) → IsEncodedAt bytes at c → get_or bytes at 0 < 128 → (get_or bytes at 0 ≡ c) × (at + 1 ≡ at + len_utf8 c)
is_one bytes at c s m = elim (bytes_at bytes at c s) [
  | one l n h e ↦ (e, omega arith)
  | two l n h i f e ↦ absurd (omega arith)
  | three l n h i f g e ↦ absurd (omega arith)
  | four l n h i f g k e ↦ absurd (omega arith)
]

pub is_two : (bytes : List ℕ) (at c : ℕ) → IsEncodedAt bytes at c → 128 ≤ get_or bytes at 0 → get_or bytes at 0 < 224
    → (c + 12416 ≡ get_or bytes at 0 * 64 + get_or bytes (at + 1) 0) × (at + 2 ≡ at + len_utf8 c)
is_two bytes at c s m o = elim (bytes_at bytes at c s) [
  | one l n h e ↦ absurd (omega arith)
  | two l n h i f e ↦ (e, omega arith)
  | three l n h i f g e ↦ absurd (omega arith)
  | four l n h i f g k e ↦ absurd (omega arith)
]

pub is_three : (bytes : List ℕ) (at c : ℕ) → IsEncodedAt bytes at c → 224 ≤ get_or bytes at 0 → get_or bytes at 0 < 240
    → (c + 925824 ≡ get_or bytes at 0 * 4096 + get_or bytes (at + 1) 0 * 64 + get_or bytes (at + 2) 0) × (at + 3 ≡ at + len_utf8 c)
is_three bytes at c s m o = elim (bytes_at bytes at c s) [
  | one l n h e ↦ absurd (omega arith)
  | two l n h i f e ↦ absurd (omega arith)
  | three l n h i f g e ↦ (e, omega arith)
  | four l n h i f g k e ↦ absurd (omega arith)
]

pub is_four : (bytes : List ℕ) (at c : ℕ) → IsEncodedAt bytes at c → 240 ≤ get_or bytes at 0
    → (c + 63447168 ≡ get_or bytes at 0 * 262144 + get_or bytes (at + 1) 0 * 4096 + get_or bytes (at + 2) 0 * 64 + get_or bytes (at + 3) 0) × (at + 4 ≡ at + len_utf8 c)
is_four bytes at c s m = elim (bytes_at bytes at c s) [
  | one l n h e ↦ absurd (omega arith)
  | two l n h i f e ↦ absurd (omega arith)
  | three l n h i f g e ↦ absurd (omega arith)
  | four l n h i f g k e ↦ (e, omega arith)
]

-- ---- Characters that end at an offset

-- A character that ends at an offset is encoded by one, two, three or four bytes before it.
data Back (bytes : List ℕ) (end start c : ℕ) : Type 0 where
  one_back : end ≡ start + 1 → end ≤ length bytes → get_or bytes (end - 1) 0 < 128 → get_or bytes (end - 1) 0 ≡ c → Back bytes end start c
  two_back : end ≡ start + 2 → end ≤ length bytes → 128 ≤ get_or bytes (end - 1) 0 → 192 ≤ get_or bytes (end - 2) 0
      → c + 12416 ≡ get_or bytes (end - 2) 0 * 64 + get_or bytes (end - 1) 0 → Back bytes end start c
  three_back : end ≡ start + 3 → end ≤ length bytes → 128 ≤ get_or bytes (end - 1) 0 → get_or bytes (end - 2) 0 < 192 → 192 ≤ get_or bytes (end - 3) 0
      → c + 925824 ≡ get_or bytes (end - 3) 0 * 4096 + get_or bytes (end - 2) 0 * 64 + get_or bytes (end - 1) 0 → Back bytes end start c
  four_back : end ≡ start + 4 → end ≤ length bytes → 128 ≤ get_or bytes (end - 1) 0 → get_or bytes (end - 2) 0 < 192 → get_or bytes (end - 3) 0 < 192
      → c + 63447168 ≡ get_or bytes (end - 4) 0 * 262144 + get_or bytes (end - 3) 0 * 4096 + get_or bytes (end - 2) 0 * 64 + get_or bytes (end - 1) 0 → Back bytes end start c

back : (bytes : List ℕ) (end start c : ℕ) → IsEncodedBetween bytes end start c → Back bytes end start c
back bytes end start c s = elim (bytes_at bytes start c s.stands) [
  | one l n h e ↦
      let z : get_or bytes (end - 1) 0 ≡ get_or bytes start 0 = at_same (end - 1) start (omega (arith, s.ends)) in
      one_back (omega (arith, s.ends)) (omega (arith, s.ends)) (omega arith) (z ∙ e)
  | two l n h i f e ↦
      let y : get_or bytes (end - 2) 0 ≡ get_or bytes start 0 = at_same (end - 2) start (omega (arith, s.ends)) in
      let z : get_or bytes (end - 1) 0 ≡ get_or bytes (start + 1) 0 = at_same (end - 1) (start + 1) (omega (arith, s.ends)) in
      two_back (omega (arith, s.ends)) (omega (arith, s.ends)) (omega arith) (omega arith) (omega arith)
  | three l n h i f g e ↦
      let x : get_or bytes (end - 3) 0 ≡ get_or bytes start 0 = at_same (end - 3) start (omega (arith, s.ends)) in
      let y : get_or bytes (end - 2) 0 ≡ get_or bytes (start + 1) 0 = at_same (end - 2) (start + 1) (omega (arith, s.ends)) in
      let z : get_or bytes (end - 1) 0 ≡ get_or bytes (start + 2) 0 = at_same (end - 1) (start + 2) (omega (arith, s.ends)) in
      three_back (omega (arith, s.ends)) (omega (arith, s.ends)) (omega arith) (omega arith) (omega arith) (omega arith)
  | four l n h i f g k e ↦
      let w : get_or bytes (end - 4) 0 ≡ get_or bytes start 0 = at_same (end - 4) start (omega (arith, s.ends)) in
      let x : get_or bytes (end - 3) 0 ≡ get_or bytes (start + 1) 0 = at_same (end - 3) (start + 1) (omega (arith, s.ends)) in
      let y : get_or bytes (end - 2) 0 ≡ get_or bytes (start + 2) 0 = at_same (end - 2) (start + 2) (omega (arith, s.ends)) in
      let z : get_or bytes (end - 1) 0 ≡ get_or bytes (start + 3) 0 = at_same (end - 1) (start + 3) (omega (arith, s.ends)) in
      four_back (omega (arith, s.ends)) (omega (arith, s.ends)) (omega arith) (omega arith) (omega arith) (omega arith)
]
  where
    at_same : (i j : ℕ) → i ≡ j → get_or bytes i 0 ≡ get_or bytes j 0
    at_same i j e = ap (λ n. get_or bytes n 0) e

-- A character ends at the offset.
abbrev Ends : List ℕ → ℕ → Type 0
Ends bytes end = (start : ℕ) × (c : ℕ) × IsEncodedBetween bytes end start c

pub last_inside : (bytes : List ℕ) (end : ℕ) → Ends bytes end → (1 ≤ end) × (end ≤ length bytes)
last_inside bytes end (start, c, s) = elim (back bytes end start c s) [
  | one_back e l h i ↦ (omega arith, l)
  | two_back e l h i f ↦ (omega arith, l)
  | three_back e l h i f g ↦ (omega arith, l)
  | four_back e l h i f g ↦ (omega arith, l)
]

pub second_back : (bytes : List ℕ) (end : ℕ) → Ends bytes end → 128 ≤ get_or bytes (end - 1) 0 → 2 ≤ end
second_back bytes end (start, c, s) m = elim (back bytes end start c s) [
  | one_back e l h i ↦ absurd (omega arith)
  | two_back e l h i f ↦ omega arith
  | three_back e l h i f g ↦ omega arith
  | four_back e l h i f g ↦ omega arith
]

pub third_back : (bytes : List ℕ) (end : ℕ) → Ends bytes end → 128 ≤ get_or bytes (end - 1) 0 → get_or bytes (end - 2) 0 < 192 → 3 ≤ end
third_back bytes end (start, c, s) m n = elim (back bytes end start c s) [
  | one_back e l h i ↦ absurd (omega arith)
  | two_back e l h i f ↦ absurd (omega arith)
  | three_back e l h i f g ↦ omega arith
  | four_back e l h i f g ↦ omega arith
]

pub fourth_back : (bytes : List ℕ) (end : ℕ) → Ends bytes end → 128 ≤ get_or bytes (end - 1) 0 → get_or bytes (end - 2) 0 < 192 → get_or bytes (end - 3) 0 < 192 → 4 ≤ end
fourth_back bytes end (start, c, s) m n o = elim (back bytes end start c s) [
  | one_back e l h i ↦ absurd (omega arith)
  | two_back e l h i f ↦ absurd (omega arith)
  | three_back e l h i f g ↦ absurd (omega arith)
  | four_back e l h i f g ↦ omega arith
]

pub back_one : (bytes : List ℕ) (end start c : ℕ) → IsEncodedBetween bytes end start c → get_or bytes (end - 1) 0 < 128 → (get_or bytes (end - 1) 0 ≡ c) × (end - 1 ≡ start)
back_one bytes end start c s m = elim (back bytes end start c s) [
  | one_back e l h i ↦ (i, omega arith)
  | two_back e l h i f ↦ absurd (omega arith)
  | three_back e l h i f g ↦ absurd (omega arith)
  | four_back e l h i f g ↦ absurd (omega arith)
]

pub back_two : (bytes : List ℕ) (end start c : ℕ) → IsEncodedBetween bytes end start c → 128 ≤ get_or bytes (end - 1) 0 → 192 ≤ get_or bytes (end - 2) 0
    → (c + 12416 ≡ get_or bytes (end - 2) 0 * 64 + get_or bytes (end - 1) 0) × (end - 2 ≡ start)
back_two bytes end start c s m n = elim (back bytes end start c s) [
  | one_back e l h i ↦ absurd (omega arith)
  | two_back e l h i f ↦ (f, omega arith)
  | three_back e l h i f g ↦ absurd (omega arith)
  | four_back e l h i f g ↦ absurd (omega arith)
]

pub back_three : (bytes : List ℕ) (end start c : ℕ) → IsEncodedBetween bytes end start c → 128 ≤ get_or bytes (end - 1) 0 → get_or bytes (end - 2) 0 < 192 → 192 ≤ get_or bytes (end - 3) 0
    → (c + 925824 ≡ get_or bytes (end - 3) 0 * 4096 + get_or bytes (end - 2) 0 * 64 + get_or bytes (end - 1) 0) × (end - 3 ≡ start)
back_three bytes end start c s m n o = elim (back bytes end start c s) [
  | one_back e l h i ↦ absurd (omega arith)
  | two_back e l h i f ↦ absurd (omega arith)
  | three_back e l h i f g ↦ (g, omega arith)
  | four_back e l h i f g ↦ absurd (omega arith)
]

pub back_four : (bytes : List ℕ) (end start c : ℕ) → IsEncodedBetween bytes end start c → 128 ≤ get_or bytes (end - 1) 0 → get_or bytes (end - 2) 0 < 192 → get_or bytes (end - 3) 0 < 192
    → (c + 63447168 ≡ get_or bytes (end - 4) 0 * 262144 + get_or bytes (end - 3) 0 * 4096 + get_or bytes (end - 2) 0 * 64 + get_or bytes (end - 1) 0) × (end - 4 ≡ start)
back_four bytes end start c s m n o = elim (back bytes end start c s) [
  | one_back e l h i ↦ absurd (omega arith)
  | two_back e l h i f ↦ absurd (omega arith)
  | three_back e l h i f g ↦ absurd (omega arith)
  | four_back e l h i f g ↦ (g, omega arith)
]

pub encodes-flat_map : (cs : List ℕ) → encodes cs ≡ flat_map encode cs
encodes-flat_map [] = refl
encodes-flat_map (c ∷ cs) = ap (λ l. encode c ++ l) (encodes-flat_map cs)

pub scalar_first : (d : ℕ) (b : Bool) → scalar d && b ≡ true → (scalar d ≡ true) × (b ≡ true)
scalar_first d b s = by (scalar d) refl s
  where
    by : (a : Bool) → scalar d ≡ a → a && b ≡ true → (scalar d ≡ true) × (b ≡ true)
    by false t s' = absurd (cc)
    by true t s' = (t, s')

pub scalar_among : (cs : List ℕ) (k c : ℕ) → scalars cs ≡ true → slice_get cs k ≡ Some c → IsScalar c
scalar_among [] k c s e = absurd (cc)
scalar_among (d ∷ cs) zero c s e = let same : d ≡ c = cc in ap scalar (sym same) ∙ (scalar_first d (scalars cs) s).0
scalar_among (d ∷ cs) (suc k) c s e = scalar_among cs k c (scalar_first d (scalars cs) s).1 e

pub spelled_by : (bytes : List ℕ) → IsUtf8 bytes → flat_map encode (chars bytes) ≡ bytes
spelled_by bytes u = sym (encodes-flat_map (chars bytes)) ∙ encodes-chars bytes u

-- A boundary is at the right end, or a character is read to its right.
pub data Right (bytes : List ℕ) (unicode : Bool) (at : ℕ) : Type 0 where
  at_the_end : at ≡ length bytes → read (utf8_text bytes unicode) rightwards at ≡ None → Right bytes unicode at
  character_behind : (c : ℕ) → IsEncodedAt bytes at c → at + len_utf8 c ≤ length bytes → at < length bytes
      → read (utf8_text bytes unicode) rightwards at ≡ Some (c, at + len_utf8 c) → Right bytes unicode at

-- A boundary is at the left end, or a character is read to its left.
pub data Left (bytes : List ℕ) (unicode : Bool) (at : ℕ) : Type 0 where
  at_the_start : at ≡ 0 → read (utf8_text bytes unicode) leftwards at ≡ None → Left bytes unicode at
  character_before : (start c : ℕ) → IsEncodedBetween bytes at start c → at ≤ length bytes → 0 < at
      → read (utf8_text bytes unicode) leftwards at ≡ Some (c, start) → Left bytes unicode at

module _ (bytes : List ℕ) (unicode : Bool) (is_utf8 : ∥ IsUtf8 bytes ∥₁) where
  u : IsUtf8 bytes
  u = IsUtf8-had bytes is_utf8

  abbrev text : Text
  text = utf8_text bytes unicode

  pub right : (at : ℕ) → IsBoundary text at → Right bytes unicode at
  right at b = go (reads_right encode len_utf8 length-encode (chars bytes) bytes unicode (fold_char unicode) (spelled_by bytes u) len_utf8-positive at b)
    where
      go : ReadsRight encode len_utf8 length-encode text (chars bytes) bytes at → Right bytes unicode at
      go (at_end e r) = at_the_end e r
      go (before_character k c rest g e l r) =
          character_behind c (record { scalar = scalar_among (chars bytes) k c (scalars-chars bytes u) g; rest = rest; spelled = e }) l (omega (arith, l, len_utf8-positive c)) r

  pub left : (at : ℕ) → IsBoundary text at → Left bytes unicode at
  left at b = go (reads_left encode len_utf8 length-encode (chars bytes) bytes unicode (fold_char unicode) (spelled_by bytes u) len_utf8-positive at b)
    where
      go : ReadsLeft encode len_utf8 length-encode text (chars bytes) bytes at → Left bytes unicode at
      go (at_start e r) = at_the_start e r
      go (behind_character k c start rest g e s l r) =
          character_before start c
          (record { stands = record { scalar = scalar_among (chars bytes) k c (scalars-chars bytes u) g; rest = rest; spelled = e }; ends = s })
          l (omega (arith, s, len_utf8-positive c)) r

  -- The length of the text is the number of its bytes.
  pub units-bytes : units text ≡ length bytes
  units-bytes = utf8_text-units bytes unicode u

  pub boundary_inside : (at : ℕ) → IsBoundary text at → at ≤ length bytes
  boundary_inside at b = elim (right at b) [ at_the_end e r ↦ omega arith | character_behind c s l i r ↦ omega arith ]

  pub read-start : (at : ℕ) → IsBoundary text at → at ≡ 0 → read text leftwards at ≡ None
  read-start at b e = elim (left at b) [ at_the_start z r ↦ r | character_before start c s l i r ↦ absurd (omega arith) ]

  -- The bytes that the code sees are the bytes of the text.
  module _ (bs : List ℕ) (same : bs ≡ bytes) where
    -- A boundary that is not the right end has a character behind it.
    pub stands_at : (at : ℕ) → IsBoundary text at → at ≢ length bs → (c : ℕ) × IsEncodedAt bs at c
    stands_at at b n = elim (right at b) [
      | at_the_end e r ↦ absurd (n (omega (arith, e, ap length same)))
      | character_behind c s l i r ↦ (c, subst (λ l. IsEncodedAt l at c) (sym same) s)
    ]

    -- An offset before the end of the text is not the right end.
    pub not-ended : (at : ℕ) → at < units text → at ≢ length bs
    not-ended at h z = omega (arith, h, z, units-bytes, ap length same)

    pub read-end : (at : ℕ) → IsBoundary text at → at ≡ length bs → read text rightwards at ≡ None
    read-end at b e = elim (right at b) [ at_the_end e r ↦ r | character_behind c s l i r ↦ absurd (omega (arith, ap length same)) ]

    pub read-character : (at x y : ℕ) → IsBoundary text at → at ≢ length bs → ((c : ℕ) → IsEncodedAt bs at c → (x ≡ c) × (y ≡ at + len_utf8 c)) → Some (x, y) ≡ read text rightwards at
    read-character at x y b n is = elim (right at b) [
      | at_the_end e r ↦ absurd (n (omega (arith, e, ap length same)))
      | character_behind c s l i r ↦ let both = is c (subst (λ l. IsEncodedAt l at c) (sym same) s) in ap₂ (λ v w. Some (v, w)) both.0 both.1 ∙ sym r
    ]

    -- A boundary that is not the left end has a character before it.
    pub ends_at : (at : ℕ) → IsBoundary text at → at ≢ 0 → (start : ℕ) × (c : ℕ) × IsEncodedBetween bs at start c
    ends_at at b n = elim (left at b) [
      | at_the_start e r ↦ absurd (n e)
      | character_before start c s l i r ↦ (start, c, subst (λ l. IsEncodedBetween l at start c) (sym same) s)
    ]

    pub read-character-left : (at x y : ℕ) → IsBoundary text at → at ≢ 0 → ((start c : ℕ) → IsEncodedBetween bs at start c → (x ≡ c) × (y ≡ start)) → Some (x, y) ≡ read text leftwards at
    read-character-left at x y b n is = elim (left at b) [
      | at_the_start e r ↦ absurd (n e)
      | character_before start c s l i r ↦ let both = is start c (subst (λ l. IsEncodedBetween l at start c) (sym same) s) in ap₂ (λ v w. Some (v, w)) both.0 both.1 ∙ sym r
    ]
