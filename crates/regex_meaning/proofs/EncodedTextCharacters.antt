-- The characters of a text in an encoding are characters of that encoding.
use Rattle.std.proofs.Common.{◌≡◌, ℕ, suc, ◌<◌, List, [], ◌∷◌, chars, Bool, true, false, ◌&&◌, refl, subst, arith, IsUtf8, IsAscii}
use Rattle.std.specs.Prelude.{if◌then◌else◌}
use Rattle.std.specs.List.{list_all}
use Rattle.std.proofs.lemmas.Bool.{and_from, lt-ltb}
use Rattle.std.proofs.lemmas.Str.{chars_from_encodes, IsUtf8-had}
use lib.Utf8.{scalar, scalars}
use Rattle.regex_meaning.specs.Text.{is_high_surrogate, is_low_surrogate, decode_surrogate_pair, utf16_characters}
use Rattle.regex_meaning.specs.CodeUnits.{Encoding, utf8, utf16, ucs2, is_character_in_encoding, AreU16Units}
use Rattle.regex_meaning.proofs.BoolLemmas.{and-left, and-right}
use Rattle.regex_meaning.proofs.StartPredicateSoundness.{is_scalar-of}
use Rattle.regex_meaning.proofs.SameMatchesAcrossEncodings.{small-scalar}

abbrev pub AreCharacters : Encoding → List ℕ → Type 0
AreCharacters e cs = list_all (is_character_in_encoding e) cs ≡ true

one-more : (e : Encoding) (c : ℕ) (cs : List ℕ) → is_character_in_encoding e c ≡ true → AreCharacters e cs → AreCharacters e (c ∷ cs)
one-more e c cs is rest = and_from (is_character_in_encoding e c) (list_all (is_character_in_encoding e) cs) is rest

scalars-are : (cs : List ℕ) → scalars cs ≡ true → AreCharacters utf8 cs
scalars-are [] h = refl
scalars-are (c ∷ cs) h = one-more utf8 c cs (is_scalar-of c (and-left (scalar c) (scalars cs) h)) (scalars-are cs (and-right (scalar c) (scalars cs) h))

pub utf8-characters : (bytes : List ℕ) → ∥ IsUtf8 bytes ∥₁ → AreCharacters utf8 (chars bytes)
utf8-characters bytes h =
    let u = IsUtf8-had bytes h in
    subst (AreCharacters utf8) (chars_from_encodes u.0 bytes u u.1.1) (scalars-are u.0 u.1.0)

pub ascii-characters : (bytes : List ℕ) → IsAscii bytes → AreCharacters utf8 bytes
ascii-characters [] h = refl
ascii-characters (b ∷ bytes) h = one-more utf8 b bytes (small-scalar b (let less = h 0 in omega (arith, less))) (ascii-characters bytes (λ i. h (suc i)))

pub ucs2-characters : (units : List ℕ) → AreU16Units units → AreCharacters ucs2 units
ucs2-characters [] h = refl
ucs2-characters (u ∷ units) h =
    one-more ucs2 u units (lt-ltb u 0x1_0000 (h 0 (omega arith))) (ucs2-characters units (λ k less. h (suc k) (omega (arith, less))))

unit-character : (u : ℕ) → u < 0x1_0000 → is_character_in_encoding utf16 u ≡ true
unit-character u less = lt-ltb u 0x11_0000 (omega (arith, less))

pair-character : (u v : ℕ) → is_character_in_encoding utf16 (decode_surrogate_pair u v) ≡ true
pair-character u v = lt-ltb (decode_surrogate_pair u v) 0x11_0000 (omega arith)

pub utf16-characters : (units : List ℕ) → AreU16Units units → AreCharacters utf16 (utf16_characters units)
utf16-characters [] h = refl
utf16-characters (u ∷ []) h = one-more utf16 u [] (unit-character u (h 0 (omega arith))) refl
utf16-characters (u ∷ v ∷ units) h =
    by (is_high_surrogate u && is_low_surrogate v)
    (utf16-characters units (λ k less. h (suc (suc k)) (omega (arith, less))))
    (utf16-characters (v ∷ units) (λ k less. h (suc k) (omega (arith, less))))
  where
    by : (pair : Bool) → AreCharacters utf16 (utf16_characters units) → AreCharacters utf16 (utf16_characters (v ∷ units))
        → AreCharacters utf16 (if pair then decode_surrogate_pair u v ∷ utf16_characters units else u ∷ utf16_characters (v ∷ units))
    by true behind next = one-more utf16 (decode_surrogate_pair u v) (utf16_characters units) (pair-character u v) behind
    by false behind next = one-more utf16 u (utf16_characters (v ∷ units)) (unit-character u (h 0 (omega arith))) next
