-- A loop over UTF-8 bytes counts the characters that they encode.
use Rattle.std.proofs.Common.{◌≡◌, ℕ, zero, suc, ◌+◌, ◌-◌, ◌<◌, List, [], ◌∷◌, length, refl, sym, ap, arith}
use Rattle.std.specs.Str.{chars, chars_after, continuation_len, lead_bits}

-- This counts the characters that begin in the bytes, behind `n` more bytes of the one before.
unfoldable pub left_count : ℕ → List ℕ → ℕ
left_count zero [] = 1
left_count zero (b ∷ bytes) = suc (left_count (continuation_len b) bytes)
left_count (suc n) [] = 0
left_count (suc n) (b ∷ bytes) = left_count n bytes

length-chars_after : (n c : ℕ) (bytes : List ℕ) → length (chars_after n c bytes) ≡ left_count n bytes
unfolding left_count
length-chars_after zero c [] = refl
length-chars_after zero c (b ∷ bytes) = ap suc (length-chars_after (continuation_len b) (lead_bits b) bytes)
length-chars_after (suc n) c [] = refl
length-chars_after (suc n) c (b ∷ bytes) = length-chars_after n _ bytes

pub length-chars-nil : length (chars []) ≡ 0
unfolding chars
length-chars-nil = refl

pub length-chars-cons : (b : ℕ) (bytes : List ℕ) → length (chars (b ∷ bytes)) ≡ left_count (continuation_len b) bytes
unfolding chars
length-chars-cons b bytes = length-chars_after (continuation_len b) (lead_bits b) bytes

pub left_count-ready : (b : ℕ) (bytes : List ℕ) → left_count 0 (b ∷ bytes) ≡ left_count (continuation_len b) bytes + 1
unfolding left_count
left_count-ready b bytes = omega arith

pub left_count-more : (n b : ℕ) (bytes : List ℕ) → 0 < n → left_count n (b ∷ bytes) ≡ left_count (n - 1) bytes
unfolding left_count
left_count-more zero b bytes h = absurd (omega arith)
left_count-more (suc n) b bytes h = let e : suc n - 1 ≡ n = omega arith in sym (ap (λ m. left_count m bytes) e)

pub left_count-done : left_count 0 [] ≡ 1
unfolding left_count
left_count-done = refl

pub left_count-cut : (n : ℕ) → 0 < n → left_count n [] ≡ 0
unfolding left_count
left_count-cut zero h = absurd (omega arith)
left_count-cut (suc n) h = refl
