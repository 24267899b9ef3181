-- The length of a text in code units is the length of the list that encodes it.
use Rattle.std.proofs.Common.{◌≡◌, ℕ, ◌+◌, ◌<◌, ◌^◌, Bool, true, false, List, [], ◌∷◌, length, get_or, map, chars, IsUtf8, length-append, append-nil, refl, ◌∙◌, ap, arith}
use Rattle.std.specs.Prelude.{nat_lt, if◌then◌else◌}
use Rattle.std.specs.Char.{len_utf8, encode_utf8}
use Rattle.std.proofs.lemmas.Str.{length-encode, len_utf8_bounds, encodes-chars, IsUtf8-had}
use lib.Utf8.{encode, encodes}
use Rattle.regex_meaning.specs.Text.{offsets_from, width_of_single_unit_character, utf8_text, ascii_text, ucs2_text}
use Rattle.regex_meaning.specs.CodeUnitOffsets.{units}
use Rattle.regex_meaning.specs.CodeUnits.{Encoding, utf8, utf16, ucs2, code_units_of_character, surrogate_pair}

-- Each character has at least one unit.
pub has-unit : (e : Encoding) (c : ℕ) → 0 < length (code_units_of_character e c)
has-unit utf8 c =
    let l = ap length (append-nil (encode_utf8 c)) in
    let w = length-encode c in
    let b = len_utf8_bounds c in
    omega (arith, l, w, b.0)
has-unit utf16 c = by (nat_lt c 0x1_0000)
  where
    by : (b : Bool) → 0 < length (if b then c ∷ [] else surrogate_pair c)
    by true = omega arith
    by false = omega arith
has-unit ucs2 c = omega arith

abbrev total : (width : ℕ → ℕ) → List ℕ → ℕ
total width [] = 0
total width (c ∷ cs) = width c + total width cs

-- The offset of the last place is the first offset plus the sum of the widths.
last-offset : (width : ℕ → ℕ) (a : ℕ) (cs : List ℕ) → get_or (offsets_from a (map width cs)) (length cs) 0 ≡ a + total width cs
last-offset width a [] = omega arith
last-offset width a (c ∷ cs) = last-offset width (a + width c) cs ∙ omega arith

widths-encodes : (cs : List ℕ) → total len_utf8 cs ≡ length (encodes cs)
widths-encodes [] = refl
widths-encodes (c ∷ cs) = omega (arith, widths-encodes cs, length-append (encode c) (encodes cs), length-encode c)

total-ones : (cs : List ℕ) → total width_of_single_unit_character cs ≡ length cs
total-ones [] = refl
total-ones (c ∷ cs) = omega (arith, total-ones cs)

pub utf8_text-units : (bytes : List ℕ) (unicode : Bool) → IsUtf8 bytes → units (utf8_text bytes unicode) ≡ length bytes
utf8_text-units bytes unicode u = last-offset len_utf8 0 (chars bytes) ∙ omega (arith, widths-encodes (chars bytes), ap length (encodes-chars bytes u))

pub ascii_text-units : (bytes : List ℕ) (unicode : Bool) → units (ascii_text bytes unicode) ≡ length bytes
ascii_text-units bytes unicode = last-offset width_of_single_unit_character 0 bytes ∙ omega (arith, total-ones bytes)

pub ucs2_text-units : (us : List ℕ) (unicode : Bool) → units (ucs2_text us unicode) ≡ length us
ucs2_text-units us unicode = last-offset width_of_single_unit_character 0 us ∙ omega (arith, total-ones us)

-- ---- Lengths below 2^64

pub utf8_text-fits : (bytes : List ℕ) (unicode : Bool) → ∥ IsUtf8 bytes ∥₁ → length bytes < 2 ^ 64 → units (utf8_text bytes unicode) < 2 ^ 64
utf8_text-fits bytes unicode u l = omega (arith, l, utf8_text-units bytes unicode (IsUtf8-had bytes u))

pub ascii_text-fits : (bytes : List ℕ) (unicode : Bool) → length bytes < 2 ^ 64 → units (ascii_text bytes unicode) < 2 ^ 64
ascii_text-fits bytes unicode l = omega (arith, l, ascii_text-units bytes unicode)

pub ucs2_text-fits : (us : List ℕ) (unicode : Bool) → length us < 2 ^ 64 → units (ucs2_text us unicode) < 2 ^ 64
ucs2_text-fits us unicode l = omega (arith, l, ucs2_text-units us unicode)
