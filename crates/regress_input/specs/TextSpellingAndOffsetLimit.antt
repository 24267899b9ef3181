-- Texts of each encoding are spelled in that encoding, and their offsets are below 2^63.
use Rattle.std.specs.Prelude.{◌≡◌, ℕ, ◌<◌, ◌≤◌, ◌^◌, Bool, List, [], ◌∷◌, length, map, if◌then◌else◌, IsUtf8, IsAscii}
use Rattle.std.proofs.Common.{◌⊎◌, inl, inr, refl, sym, ◌∙◌, ap, ap₂, subst, lt-ltb, le-ltb, le-leb}
use Rattle.std.proofs.lemmas.Bool.{cases_lt, lt-leb}
use Rattle.std.proofs.lemmas.List.{append-nil}
use Rattle.std.proofs.lemmas.Str.{length-encode, IsUtf8-had}
use Rattle.std.specs.Char.{len_utf8}
use lib.Utf8.{encode}
use Rattle.regex_meaning.specs.Text.{offsets_from, width_of_single_unit_character, utf16_width, utf8_text, ascii_text, utf16_text, ucs2_text}
use Rattle.regex_meaning.specs.CodeUnitOffsets.{units}
use Rattle.regex_meaning.specs.CodeUnits.{Encoding, utf8, utf16, ucs2, surrogate_pair, code_units_of_character, HasOffsetsInEncoding, AreU16Units}
use Rattle.regex_meaning.proofs.CodeUnitLengthLemmas.{utf8_text-units, ascii_text-units, ucs2_text-units}
use Rattle.regex_meaning.proofs.UnitBoundaryLemmas.{units-utf16}
use Rattle.regress_input.specs.ByteTextsAreUtf8.{ascii_widths}

-- ---- The width of a character is the length of its spelling

-- If the width of each character is the length of its spelling, this also holds for lists of
-- characters.
widths : (e : Encoding) (width : ℕ → ℕ) → ((c : ℕ) → length (code_units_of_character e c) ≡ width c) → (cs : List ℕ)
    → map width cs ≡ map (λ c. length (code_units_of_character e c)) cs
widths e width sized [] = refl
widths e width sized (c ∷ cs) = ap₂ (λ w ws. w ∷ ws) (sym (sized c)) (widths e width sized cs)

-- The UTF-8 spelling of a character has as many bytes as the width of the character.
pub sized_utf8 : (c : ℕ) → length (code_units_of_character utf8 c) ≡ len_utf8 c
sized_utf8 c = ap length (append-nil (encode c)) ∙ length-encode c

-- The UTF-16 spelling of a character has as many units as the width of the character.
pub sized_utf16 : (c : ℕ) → length (code_units_of_character utf16 c) ≡ utf16_width c
sized_utf16 c = by (cases_lt c 0x1_0000)
  where
    by : (c < 0x1_0000) ⊎ (0x1_0000 ≤ c) → length (code_units_of_character utf16 c) ≡ utf16_width c
    by (inl l) = ap (λ (b : Bool). length (if b then c ∷ [] else surrogate_pair c)) (lt-ltb c 0x1_0000 l) ∙ sym
        (ap (λ (b : Bool). if b then 2 else 1) (lt-leb 0x1_0000 c l))
    by (inr l) = ap (λ (b : Bool). length (if b then c ∷ [] else surrogate_pair c)) (le-ltb c 0x1_0000 l) ∙ sym
        (ap (λ (b : Bool). if b then 2 else 1) (le-leb 0x1_0000 c l))

-- The text of UTF-8 bytes is spelled in UTF-8.
pub utf8_text-IsSpelled : (bytes : List ℕ) (unicode : Bool) → HasOffsetsInEncoding utf8 (utf8_text bytes unicode)
utf8_text-IsSpelled bytes unicode = record { offsets = ap (offsets_from 0) (widths utf8 len_utf8 sized_utf8 _) }

-- The text of ASCII bytes is spelled in UTF-8.
pub ascii_text-IsSpelled : (bytes : List ℕ) (unicode : Bool) → IsAscii bytes
    → HasOffsetsInEncoding utf8 (ascii_text bytes unicode)
ascii_text-IsSpelled bytes unicode h =
    record { offsets = ap (offsets_from 0) (ascii_widths bytes h ∙ widths utf8 len_utf8 sized_utf8 bytes) }

-- The text of UTF-16 units is spelled in UTF-16.
pub utf16_text-IsSpelled : (us : List ℕ) (unicode : Bool) → HasOffsetsInEncoding utf16 (utf16_text us unicode)
utf16_text-IsSpelled us unicode = record { offsets = ap (offsets_from 0) (widths utf16 utf16_width sized_utf16 _) }

-- The text of 16-bit units that are characters is spelled in UCS-2.
pub ucs2_text-IsSpelled : (us : List ℕ) (unicode : Bool) → HasOffsetsInEncoding ucs2 (ucs2_text us unicode)
ucs2_text-IsSpelled us unicode =
    record { offsets = ap (offsets_from 0) (widths ucs2 width_of_single_unit_character (λ c. refl) us) }

-- ---- Offsets are below 2^63 if the lengths of the lists are

-- A number that equals one below 2^63 is below 2^63.
as_long : (n m : ℕ) → n ≡ m → m < 2 ^ 63 → n < 2 ^ 63
as_long n m e l = subst (λ k. k < 2 ^ 63) (sym e) l

-- Offsets in a text of UTF-8 bytes are below 2^63.
pub utf8_text-fits : (bytes : List ℕ) (unicode : Bool) → ∥ IsUtf8 bytes ∥₁ → length bytes < 2 ^ 63
    → units (utf8_text bytes unicode) < 2 ^ 63
utf8_text-fits bytes unicode u l = as_long _ _ (utf8_text-units bytes unicode (IsUtf8-had bytes u)) l

-- Offsets in a text of ASCII bytes are below 2^63.
pub ascii_text-fits : (bytes : List ℕ) (unicode : Bool) → length bytes < 2 ^ 63
    → units (ascii_text bytes unicode) < 2 ^ 63
ascii_text-fits bytes unicode l = as_long _ _ (ascii_text-units bytes unicode) l

-- Offsets in a text of UTF-16 units are below 2^63.
pub utf16_text-fits : (us : List ℕ) (unicode : Bool) → AreU16Units us → length us < 2 ^ 63
    → units (utf16_text us unicode) < 2 ^ 63
utf16_text-fits us unicode small l = as_long _ _ (units-utf16 us unicode small) l

-- Offsets in a text of UCS-2 units are below 2^63.
pub ucs2_text-fits : (us : List ℕ) (unicode : Bool) → length us < 2 ^ 63 → units (ucs2_text us unicode) < 2 ^ 63
ucs2_text-fits us unicode l = as_long _ _ (ucs2_text-units us unicode) l
