-- Texts as lists of characters, and the characters beside a place.
use Rattle.std.specs.Prelude.{ℕ, zero, suc, ◌+◌, ◌-◌, ◌*◌, ◌%◌, Bool, true, false, ◌&&◌, ◌||◌, List, [], ◌∷◌, ◌++◌, map, length, Option, None, if◌then◌else◌, nat_le, ◌==◌, slice_get, slice_range}
use Rattle.std.specs.Prelude.{chars}
use Rattle.std.specs.Char.{len_utf8}
use Rattle.regex_meaning.specs.NumberListHelpers.{contains}
use Rattle.std.specs.Int.{is_in_range}

-- ---- Characters

-- Whether the number is a Unicode scalar value, that is, a `char`.
abbrev pub is_scalar : ℕ → Bool
is_scalar c = is_in_range 0 0xD7FF c || is_in_range 0xE000 0x10_FFFF c

-- `a` to `z`
abbrev pub is_ascii_lowercase : ℕ → Bool
is_ascii_lowercase c = is_in_range 97 122 c

-- `A` to `Z`
abbrev pub is_ascii_uppercase : ℕ → Bool
is_ascii_uppercase c = is_in_range 65 90 c

-- The lowercase letter of `A` to `Z`. Any other number is unchanged.
abbrev pub to_ascii_lowercase : ℕ → ℕ
to_ascii_lowercase c = if is_ascii_uppercase c then c + 32 else c

-- The uppercase letter of `a` to `z`. Any other number is unchanged.
abbrev pub to_ascii_uppercase : ℕ → ℕ
to_ascii_uppercase c = if is_ascii_lowercase c then c - 32 else c

-- *Canonicalize* (21.2.2.8.2) for these characters: with `unicode`, `A` to `Z` fold to lowercase,
-- U+017F to `s` and U+212A to `k`; without it, `a` to `z` fold to uppercase. It is a rule of this
-- crate that no other characters fold.
unfoldable pub fold_code_point : (unicode : Bool) → ℕ → ℕ
fold_code_point true c = if c == 0x017F then 115 else if c == 0x212A then 107 else to_ascii_lowercase c
fold_code_point false c = to_ascii_uppercase c

-- The code point beyond ASCII that folds to this letter, if there is one.
abbrev pub nonascii_with_fold : (unicode : Bool) → ℕ → List ℕ
nonascii_with_fold false folded = []
nonascii_with_fold true folded = if folded == 115 then 0x017F ∷ [] else if folded == 107 then 0x212A ∷ [] else []

-- All code points with this fold, in increasing order.
abbrev pub code_points_with_fold : (unicode : Bool) → ℕ → List ℕ
code_points_with_fold unicode folded =
    let upper = to_ascii_uppercase folded in
    let lower = to_ascii_lowercase folded in
    (if upper == lower then folded ∷ [] else upper ∷ lower ∷ []) ++ nonascii_with_fold unicode folded

-- The code points that c matches: c alone or, with `icase`, all code points that fold as c does.
unfoldable pub expand_code_point : ℕ → (icase unicode : Bool) → List ℕ
expand_code_point c false unicode = c ∷ []
expand_code_point c true unicode = code_points_with_fold unicode (fold_code_point unicode c)

-- LineTerminator (11.3)
abbrev pub is_line_terminator : ℕ → Bool
is_line_terminator c = c == 0x0A || c == 0x0D || c == 0x2028 || c == 0x2029

-- Whether a code point beyond ASCII folds to a word character of ASCII.
abbrev pub nonascii_folds_to_ascii_word_char : ℕ → Bool
nonascii_folds_to_ascii_word_char c = c == 0x017F || c == 0x212A

-- Whether c is a word character (21.2.2.6.1, *WordCharacters*): `a` to `z`, `A` to `Z`, `0` to `9`
-- and `_` and, with both flags `i` and `u`, the characters that fold to one of them.
abbrev pub is_word_char : (unicode_icase : Bool) → ℕ → Bool
is_word_char unicode_icase c =
    is_ascii_lowercase c || is_ascii_uppercase c || is_in_range 48 57 c || c ==
    95 || (unicode_icase && nonascii_folds_to_ascii_word_char c)

-- ---- Texts

-- A text: its characters (*Input*, 21.2.2.1), the offset of each place in code units, and how
-- characters fold when case is ignored. A *place* is a number of characters from the left, from 0
-- to the number of characters.
pub record Text : Type 0 where
  pub characters : List ℕ
  pub offsets : List ℕ
  pub unicode : Bool
  pub fold : ℕ → ℕ

-- The offsets of the places from `at` on, given the widths of the characters in code units.
abbrev pub offsets_from : ℕ → List ℕ → List ℕ
offsets_from at [] = at ∷ []
offsets_from at (width ∷ widths) = at ∷ offsets_from (at + width) widths

-- The width of a character that is one code unit.
abbrev pub width_of_single_unit_character : ℕ → ℕ
width_of_single_unit_character c = 1

-- The fold of a character, or the character itself if its fold is not a `char`.
abbrev pub fold_char : (unicode : Bool) → ℕ → ℕ
fold_char unicode c = let folded = fold_code_point unicode c in if is_scalar folded then folded else c

-- The fold of a character in an ASCII text.
abbrev pub fold_ascii : (unicode : Bool) → ℕ → ℕ
fold_ascii true c = to_ascii_lowercase c
fold_ascii false c = to_ascii_uppercase c

-- The text that the bytes encode in UTF-8 (21.2.2.2 with the flag `u`).
abbrev pub utf8_text : List ℕ → (unicode : Bool) → Text
utf8_text bytes unicode = record {
  characters = chars bytes;
  offsets = offsets_from 0 (map len_utf8 (chars bytes));
  unicode = unicode;
  fold = fold_char unicode;
}

-- The text whose characters are the bytes.
abbrev pub ascii_text : List ℕ → (unicode : Bool) → Text
ascii_text bytes unicode = record {
  characters = bytes;
  offsets = offsets_from 0 (map width_of_single_unit_character bytes);
  unicode = unicode;
  fold = fold_ascii unicode;
}

-- U+D800 to U+DBFF, the condition on LeadSurrogate
abbrev pub is_high_surrogate : ℕ → Bool
is_high_surrogate u = is_in_range 0xD800 0xDBFF u

-- U+DC00 to U+DFFF, the condition on TrailSurrogate
abbrev pub is_low_surrogate : ℕ → Bool
is_low_surrogate u = is_in_range 0xDC00 0xDFFF u

-- The code point of a surrogate pair.
abbrev pub decode_surrogate_pair : (high low : ℕ) → ℕ
decode_surrogate_pair high low = 0x1_0000 + ((high % 0x400) * 0x400 + low % 0x400)

-- The number of 16-bit code units of a character.
abbrev pub utf16_width : ℕ → ℕ
utf16_width c = if nat_le 0x1_0000 c then 2 else 1

-- The characters of 16-bit code units (6.1.4, 10.1.2). A high surrogate and a low surrogate after
-- it are one character. Any other unit is a character by itself.
abbrev pub utf16_characters : List ℕ → List ℕ
utf16_characters [] = []
utf16_characters (u ∷ []) = u ∷ []
utf16_characters (u ∷ v ∷ units) =
    let pair = decode_surrogate_pair u v ∷ utf16_characters units in
    let single = u ∷ utf16_characters (v ∷ units) in
    if is_high_surrogate u && is_low_surrogate v then pair else single

-- The text that the 16-bit code units encode in UTF-16 (21.2.2.2 with the flag `u`).
abbrev pub utf16_text : List ℕ → (unicode : Bool) → Text
utf16_text units unicode = record {
  characters = utf16_characters units;
  offsets = offsets_from 0 (map utf16_width (utf16_characters units));
  unicode = unicode;
  fold = fold_code_point unicode;
}

-- Whether the offset is within the 16-bit code units and cuts no surrogate pair.
abbrev pub is_unit_boundary : List ℕ → ℕ → Bool
is_unit_boundary units i = contains (offsets_from 0 (map utf16_width (utf16_characters units))) i

-- The text whose characters are the 16-bit code units (21.2.2.2 without the flag `u`).
abbrev pub ucs2_text : List ℕ → (unicode : Bool) → Text
ucs2_text units unicode = record {
  characters = units;
  offsets = offsets_from 0 (map width_of_single_unit_character units);
  unicode = unicode;
  fold = fold_code_point unicode;
}

-- ---- Characters beside a place

-- The direction of matching: rightwards, or leftwards inside a lookbehind.
pub data Direction : Type 0 where
  rightwards : Direction
  leftwards : Direction

module _ (text : Text) where
  -- The place at the right end (*InputLength*, 21.2.2.1).
  abbrev pub last_place : ℕ
  last_place = length text.characters

  -- The character to the left of a place.
  abbrev pub character_before : ℕ → Option ℕ
  character_before zero = None
  character_before (suc place) = slice_get text.characters place

  -- The character to the right of a place.
  abbrev pub character_after : ℕ → Option ℕ
  character_after place = slice_get text.characters place

  -- The next character in the direction.
  abbrev pub next_character : Direction → ℕ → Option ℕ
  next_character rightwards place = character_after place
  next_character leftwards place = character_before place

  -- The number of characters that are left in the direction.
  abbrev pub characters_ahead : Direction → ℕ → ℕ
  characters_ahead rightwards place = last_place - place
  characters_ahead leftwards place = place

  -- The place n characters further in the direction.
  abbrev pub moved : Direction → ℕ → ℕ → ℕ
  moved rightwards n place = place + n
  moved leftwards n place = place - n

  -- The next n characters in the direction, read from left to right.
  abbrev pub next_characters : Direction → ℕ → ℕ → List ℕ
  next_characters rightwards n place = slice_range text.characters place (place + n)
  next_characters leftwards n place = slice_range text.characters (place - n) place
