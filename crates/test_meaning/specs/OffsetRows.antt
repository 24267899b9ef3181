-- Rows on offsets: starts at, within and past the text, and where the list of matches continues.
use Rattle.std.specs.Prelude.{◌≡◌, ◌-◌, ◌^◌, [], ◌∷◌, Some, None, refl, true, false, codes, map}
use Rattle.regex_meaning.specs.Tree.{goal, bracket, char, cat, end_of_cat, match_any, loop_1_char_body}
use Rattle.regex_meaning.specs.Text.{utf8_text, ascii_text, utf16_text, ucs2_text}
use Rattle.regex_meaning.specs.CodeUnitOffsets.{offset, units, place_at}
use Rattle.std.specs.Str.{chars}
use Rattle.test_meaning.specs.Computing.{at_offset, found, matches, goes_on_at, in_brackets, times}

-- `é€` and U+1F600: 2, 3 and 4 bytes
offsets : map (offset (utf8_text (195 ∷ 169 ∷ 226 ∷ 130 ∷ 172 ∷ 240 ∷ 159 ∷ 152 ∷ 128 ∷ []) false))
    (0 ∷ 1 ∷ 2 ∷ 3 ∷ []) ≡ (0 ∷ 2 ∷ 5 ∷ 9 ∷ [])
unfolding chars
offsets = refl

-- Only the offsets at which a character begins, and the end, are offsets of places.
places : map (place_at (utf8_text (195 ∷ 169 ∷ 97 ∷ []) false))
    (0 ∷ 1 ∷ 2 ∷ 3 ∷ 4 ∷ []) ≡ (Some 0 ∷ None ∷ Some 1 ∷ Some 2 ∷ None ∷ [])
unfolding chars
places = refl

-- A pair of surrogates is one character of UTF-16 and two of UCS-2.
pairs : map (place_at (utf16_text (0xD83D ∷ 0xDE00 ∷ 97 ∷ []) false))
    (0 ∷ 1 ∷ 2 ∷ 3 ∷ 4 ∷ []) ≡ (Some 0 ∷ None ∷ Some 1 ∷ Some 2 ∷ None ∷ [])
pairs = refl

no_pairs : map (place_at (ucs2_text (0xD83D ∷ 0xDE00 ∷ 97 ∷ []) false))
    (0 ∷ 1 ∷ 2 ∷ 3 ∷ 4 ∷ []) ≡ (Some 0 ∷ Some 1 ∷ Some 2 ∷ Some 3 ∷ None ∷ [])
no_pairs = refl

-- The length in units.
lengths : (units (utf8_text (195 ∷ 169 ∷ []) false) ≡ 2) × (units (ascii_text (97 ∷ []) false) ≡ 1)
    × (units (utf16_text (0xD83D ∷ 0xDE00 ∷ []) false) ≡ 2) × (units (ucs2_text (0xD83D ∷ 0xDE00 ∷ []) false) ≡ 2)
    × (units (utf8_text [] false) ≡ 0)
unfolding chars
lengths = (refl, refl, refl, refl, refl)

-- `é€`: ranges are in bytes
two_characters : matches (cat match_any (cat goal end_of_cat)) (utf8_text (195 ∷ 169 ∷ 226 ∷ 130 ∷ 172 ∷ []) false)
    0 ≡ (found 0 2 [] ∷ found 2 5 [] ∷ [])
unfolding matches
two_characters = refl

-- `[^é]` in `éa` at each offset from 0 to 4. If no match begins there, no later match is searched
-- for.
at_each : map (at_offset (cat (bracket (in_brackets true ((233, 233) ∷ []))) (cat goal end_of_cat))
    (utf8_text (195 ∷ 169 ∷ 97 ∷ []) false)) (0 ∷ 1 ∷ 2 ∷ 3 ∷ 4 ∷ [])
    ≡ (None ∷ None ∷ Some (found 2 3 []) ∷ None ∷ None ∷ [])
unfolding at_offset
at_each = refl

-- `a*?` has an empty match at the end.
at_the_end : at_offset (cat (cat (loop_1_char_body (times 0 None false) (char 97)) end_of_cat) (cat goal end_of_cat))
    (utf8_text (codes "aa") false) 2 ≡ Some (found 2 2 [])
unfolding at_offset
at_the_end = refl

-- The same from the second character.
second_character : matches (cat match_any (cat goal end_of_cat)) (utf8_text (195 ∷ 169 ∷ 226 ∷ 130 ∷ 172 ∷ []) false)
    2 ≡ (found 2 5 [] ∷ [])
unfolding matches
second_character = refl

-- The same from the end.
from_the_end : matches (cat match_any (cat goal end_of_cat)) (utf8_text (195 ∷ 169 ∷ 226 ∷ 130 ∷ 172 ∷ []) false) 5 ≡ []
unfolding matches
from_the_end = refl

-- `a*` from the largest start
far_utf8 : matches (cat (cat (loop_1_char_body (times 0 None true) (char 97)) end_of_cat) (cat goal end_of_cat))
    (utf8_text (codes "aab") false) (2 ^ 64 - 1) ≡ []
unfolding matches
far_utf8 = refl

-- `a*` from the largest start
far_ascii : matches (cat (cat (loop_1_char_body (times 0 None true) (char 97)) end_of_cat) (cat goal end_of_cat))
    (ascii_text (codes "aab") false) (2 ^ 64 - 1) ≡ []
unfolding matches
far_ascii = refl

-- `a*` from the largest start
far_utf16 : matches (cat (cat (loop_1_char_body (times 0 None true) (char 97)) end_of_cat) (cat goal end_of_cat))
    (utf16_text (codes "aab") false) (2 ^ 64 - 1) ≡ []
unfolding matches
far_utf16 = refl

-- `a*` from the largest start
far_ucs2 : matches (cat (cat (loop_1_char_body (times 0 None true) (char 97)) end_of_cat) (cat goal end_of_cat))
    (ucs2_text (codes "aab") false) (2 ^ 64 - 1) ≡ []
unfolding matches
far_ucs2 = refl

-- `a*` on `aab`: after 0..2 the list continues at 2, after 2..2 at 3, and after 3..3 it ends.
goes_on : map (goes_on_at (cat (cat (loop_1_char_body (times 0 None true) (char 97)) end_of_cat) (cat goal end_of_cat))
    (utf8_text (codes "aab") false)) (0 ∷ 2 ∷ 3 ∷ 4 ∷ []) ≡ (Some 2 ∷ Some 3 ∷ None ∷ None ∷ [])
unfolding goes_on_at
goes_on = refl

-- The empty pattern on `é`: after 0..0 the list continues past the character.
goes_past_a_character : map (goes_on_at (cat end_of_cat (cat goal end_of_cat)) (utf8_text (195 ∷ 169 ∷ []) false))
    (0 ∷ 2 ∷ []) ≡ (Some 2 ∷ None ∷ [])
unfolding goes_on_at
goes_past_a_character = refl
