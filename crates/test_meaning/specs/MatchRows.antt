-- Worked rows: patterns, trees and matches.
use Rattle.std.specs.Prelude.{◌≡◌, [], ◌∷◌, Some, None, refl, true, false, codes}
use Rattle.regex_meaning.specs.Tree.{goal, char, cat, end_of_cat, alt, bracket, capture_group, lookaround, loop, loop_1_char_body}
use Rattle.regex_meaning.specs.Text.{utf8_text, utf16_text, ucs2_text}
use Rattle.test_meaning.specs.Computing.{found, matches, times, in_brackets, look}

-- The empty pattern on the empty text.
empty_on_empty : matches (cat end_of_cat (cat goal end_of_cat)) (utf8_text [] false) 0 ≡ (found 0 0 [] ∷ [])
unfolding matches
empty_on_empty = refl

-- The empty pattern.
empty_everywhere : matches (cat end_of_cat (cat goal end_of_cat)) (utf8_text (codes "ab") false)
    0 ≡ (found 0 0 [] ∷ found 1 1 [] ∷ found 2 2 [] ∷ [])
unfolding matches
empty_everywhere = refl

-- `ab|a`
longer_first : matches (cat (alt (cat (char 97) (cat (char 98) end_of_cat)) (cat (char 97) end_of_cat))
    (cat goal end_of_cat)) (utf8_text (codes "aab") false) 0 ≡ (found 0 1 [] ∷ found 1 3 [] ∷ [])
unfolding matches
longer_first = refl

-- `z`
nowhere : matches (cat (cat (char 122) end_of_cat) (cat goal end_of_cat)) (utf8_text (codes "abc") false) 0 ≡ []
unfolding matches
nowhere = refl

-- `(a)|b`
either : matches (cat (alt (cat (capture_group 0 [] (cat (char 97) end_of_cat)) end_of_cat) (cat (char 98) end_of_cat))
    (cat goal end_of_cat)) (utf8_text (codes "ab") false)
    0 ≡ (found 0 1 (Some (0, 1) ∷ []) ∷ found 1 2 (None ∷ []) ∷ [])
unfolding matches
either = refl

-- `\d+`
digits : matches (cat (cat (loop_1_char_body (times 1 None true) (bracket (in_brackets false ((48, 57) ∷ []))))
    end_of_cat) (cat goal end_of_cat)) (utf8_text (codes "Price: $123") false) 0 ≡ (found 8 11 [] ∷ [])
unfolding matches
digits = refl

-- `(a)(b)?`
optional_group : matches (cat (cat (capture_group 0 [] (cat (char 97) end_of_cat))
    (cat (loop (times 0 (Some 1) true) 1 2 (capture_group 1 [] (cat (char 98) end_of_cat))) end_of_cat))
    (cat goal end_of_cat)) (utf8_text (codes "a") false) 0 ≡ (found 0 1 (Some (0, 1) ∷ None ∷ []) ∷ [])
unfolding matches
optional_group = refl

-- `[a-z]` on U+0161.
letters_ucs2 : matches (cat (cat (bracket (in_brackets false ((97, 122) ∷ []))) end_of_cat) (cat goal end_of_cat))
    (ucs2_text (353 ∷ []) false) 0 ≡ []
unfolding matches
letters_ucs2 = refl

-- A surrogate is a unit of UCS-2.
surrogate_ucs2 : matches (cat (char 55296) (cat goal end_of_cat)) (ucs2_text (55296 ∷ []) false) 0 ≡ (found 0 1 [] ∷ [])
unfolding matches
surrogate_ucs2 = refl

-- U+110000 is not a unit.
too_large_utf16 : matches (cat (char 1114112) (cat goal end_of_cat)) (utf16_text (97 ∷ []) false) 0 ≡ []
unfolding matches
too_large_utf16 = refl

-- U+110000 is not a unit.
too_large_ucs2 : matches (cat (char 1114112) (cat goal end_of_cat)) (ucs2_text (97 ∷ []) false) 0 ≡ []
unfolding matches
too_large_ucs2 = refl

-- `a??b`
lazy_optional : matches (cat (cat (loop_1_char_body (times 0 (Some 1) false) (char 97)) (cat (char 98) end_of_cat))
    (cat goal end_of_cat)) (utf8_text (codes "ab") false) 0 ≡ (found 0 2 [] ∷ [])
unfolding matches
lazy_optional = refl

-- `(?=(a))` keeps its group, and `(?!(a))` does not.
crossed : matches (cat (alt (cat (lookaround (look false false 0 1)
    (cat (capture_group 0 [] (cat (char 97) end_of_cat)) end_of_cat)) (cat (char 97) end_of_cat))
    (cat (lookaround (look true false 1 2) (cat (capture_group 1 [] (cat (char 97) end_of_cat)) end_of_cat))
    (cat (char 98) end_of_cat))) (cat goal end_of_cat)) (utf8_text (codes "ab") false)
    0 ≡ (found 0 1 (Some (0, 1) ∷ None ∷ []) ∷ found 1 2 (None ∷ None ∷ []) ∷ [])
unfolding matches
crossed = refl
