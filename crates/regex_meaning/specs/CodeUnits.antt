-- The code units in which the characters of a text are encoded.
use Rattle.std.specs.Prelude.{◌≡◌, ℕ, ◌+◌, ◌-◌, ◌/◌, ◌%◌, ◌<◌, Bool, List, [], ◌∷◌, length, slice_index, map, flat_map, if◌then◌else◌, nat_lt, encode_utf8_all}
use Rattle.regex_meaning.specs.Text.{Text, offsets_from, is_scalar}

-- An encoding of texts. Code units are bytes in UTF-8, which contains ASCII, and have 16 bits in
-- UTF-16 and UCS-2.
pub data Encoding : Type 0 where
  utf8 : Encoding
  utf16 : Encoding
  ucs2 : Encoding

-- Whether a number can be a character of a text in this encoding.
abbrev pub is_character_in_encoding : Encoding → ℕ → Bool
is_character_in_encoding utf8 c = is_scalar c
is_character_in_encoding utf16 c = nat_lt c 0x11_0000
is_character_in_encoding ucs2 c = nat_lt c 0x1_0000

-- Each unit is a 16-bit number.
abbrev pub AreU16Units : List ℕ → Type 0
AreU16Units units = (k : ℕ) → k < length units → slice_index units k < 0x1_0000

-- The surrogate pair of a code point above U+FFFF, with the high surrogate first.
abbrev pub surrogate_pair : ℕ → List ℕ
surrogate_pair c = (0xD800 + (c - 0x1_0000) / 0x400) ∷ (0xDC00 + (c - 0x1_0000) % 0x400) ∷ []

-- The code units of one character.
abbrev pub code_units_of_character : Encoding → ℕ → List ℕ
code_units_of_character utf8 c = encode_utf8_all (c ∷ [])
code_units_of_character utf16 c = if nat_lt c 0x1_0000 then c ∷ [] else surrogate_pair c
code_units_of_character ucs2 c = c ∷ []

-- The code units of a text.
abbrev pub text_units_in_encoding : Encoding → Text → List ℕ
text_units_in_encoding e text = flat_map (code_units_of_character e) text.characters

-- The offsets of the text are those of its characters in code units of this encoding.
pub record HasOffsetsInEncoding (e : Encoding) (text : Text) : Type 0 where
  pub offsets : text.offsets ≡ offsets_from 0 (map (λ c. length (code_units_of_character e c)) text.characters)
