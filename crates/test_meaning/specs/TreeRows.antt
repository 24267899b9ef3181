-- Patterns and trees: loops, sets, lookarounds, encodings and hostile trees.
use Rattle.std.specs.Prelude.{◌≡◌, [], ◌∷◌, Some, None, refl, true, false}
use Rattle.regex_meaning.specs.Tree.{Node, empty, goal, char, char_set, byte_set, byte_sequence, cat, end_of_cat, alt, bracket, string_set, match_any_except_line_terminator, anchor, start_of_line}
use Rattle.regex_meaning.specs.Tree.{end_of_line, capture_group, back_ref, exact, lookaround, loop, loop_1_char_body}
use Rattle.regex_meaning.specs.Text.{utf8_text, utf16_text, ucs2_text}
use Rattle.test_meaning.specs.Computing.{found, matches, first, times, in_brackets, look}

-- `a+?`
abbrev lazy_plus-tree : Node
lazy_plus-tree = (cat (cat (loop_1_char_body (times 1 None false) (char 97)) end_of_cat) (cat goal end_of_cat))

lazy_plus : matches lazy_plus-tree (utf8_text (97 ∷ 97 ∷ []) false) 0 ≡ (found 0 1 [] ∷ found 1 2 [] ∷ [])
unfolding matches
lazy_plus = refl

-- `(a{2,3}?)(a*)`
abbrev lazy_then_greedy-tree : Node
lazy_then_greedy-tree = (cat (cat (capture_group 0 []
    (cat (loop_1_char_body (times 2 (Some 3) false) (char 97)) end_of_cat))
    (cat (capture_group 1 [] (cat (loop_1_char_body (times 0 None true) (char 97)) end_of_cat)) end_of_cat))
    (cat goal end_of_cat))

lazy_then_greedy : first lazy_then_greedy-tree (utf8_text (97 ∷ 97 ∷ 97 ∷ 97 ∷ []) false)
    0 ≡ (found 0 4 ((Some (0, 2)) ∷ (Some (2, 4)) ∷ []) ∷ [])
unfolding first
lazy_then_greedy = refl

-- `(?:(a)|b)*?c`
abbrev lazy_with_group-tree : Node
lazy_with_group-tree = (cat (cat (loop (times 0 None false) 0 1
    (alt (cat (capture_group 0 [] (cat (char 97) end_of_cat)) end_of_cat) (cat (char 98) end_of_cat)))
    (cat (char 99) end_of_cat)) (cat goal end_of_cat))

lazy_with_group : matches lazy_with_group-tree (utf8_text (97 ∷ 98 ∷ 99 ∷ []) false) 0 ≡ (found 0 3 (None ∷ []) ∷ [])
unfolding matches
lazy_with_group = refl

-- `(a*){2}`
abbrev two_empty_iterations-tree : Node
two_empty_iterations-tree = (cat (cat (loop (times 2 (Some 2) true) 0 1
    (capture_group 0 [] (cat (loop_1_char_body (times 0 None true) (char 97)) end_of_cat))) end_of_cat)
    (cat goal end_of_cat))

two_empty_iterations : matches two_empty_iterations-tree (utf8_text (98 ∷ []) false)
    0 ≡ (found 0 0 ((Some (0, 0)) ∷ []) ∷ found 1 1 ((Some (1, 1)) ∷ []) ∷ [])
unfolding matches
two_empty_iterations = refl

-- A sequence of six characters of three bytes.
abbrev six_signs-tree : Node
six_signs-tree = (cat (byte_sequence (226 ∷ 130 ∷ 172 ∷ 226 ∷ 130 ∷ 172 ∷ 226 ∷ 130 ∷ 172 ∷ 226 ∷ 130 ∷ 172 ∷ 226 ∷ 130
    ∷ 172 ∷ 226 ∷ 130 ∷ 172 ∷ [])) (cat goal end_of_cat))

six_signs : matches six_signs-tree (utf8_text (226 ∷ 130 ∷ 172 ∷ 226 ∷ 130 ∷ 172 ∷ 226 ∷ 130 ∷ 172 ∷ 226 ∷ 130 ∷ 172
    ∷ 226 ∷ 130 ∷ 172 ∷ 226 ∷ 130 ∷ 172 ∷ []) false) 0 ≡ (found 0 18 [] ∷ [])
unfolding matches
six_signs = refl

-- An empty set accepts no character.
abbrev empty_set-tree : Node
empty_set-tree = (cat (char_set []) (cat goal end_of_cat))

empty_set : matches empty_set-tree (utf8_text (97 ∷ []) false) 0 ≡ []
unfolding matches
empty_set = refl

-- A loop over an empty set is left at once.
abbrev empty_set_not_at_all-tree : Node
empty_set_not_at_all-tree =
    (cat (loop_1_char_body (times 0 None true) (byte_set [])) (cat (char 97) (cat goal end_of_cat)))

empty_set_not_at_all : matches empty_set_not_at_all-tree (utf8_text (97 ∷ []) false) 0 ≡ (found 0 1 [] ∷ [])
unfolding matches
empty_set_not_at_all = refl

-- The strings `a` and `ab`, followed by `c`.
abbrev strings_in_order-tree : Node
strings_in_order-tree = (cat (string_set ((97 ∷ []) ∷ (97 ∷ 98 ∷ []) ∷ []) false) (cat (char 99) (cat goal end_of_cat)))

strings_in_order : matches strings_in_order-tree (utf8_text (97 ∷ 98 ∷ 99 ∷ []) false) 0 ≡ (found 0 3 [] ∷ [])
unfolding matches
strings_in_order = refl

-- `(ab)(?<=\1)c`
abbrev backreference_behind-tree : Node
backreference_behind-tree = (cat (cat (capture_group 0 [] (cat (char 97) (cat (char 98) end_of_cat)))
    (cat (lookaround (look false true 1 1) (cat (back_ref 1 exact) end_of_cat)) (cat (char 99) end_of_cat)))
    (cat goal end_of_cat))

backreference_behind : matches backreference_behind-tree (utf8_text (97 ∷ 98 ∷ 99 ∷ []) false)
    0 ≡ (found 0 3 ((Some (0, 2)) ∷ []) ∷ [])
unfolding matches
backreference_behind = refl

-- `(?:(?=(a))ac|ab)\1`
abbrev group_taken_back-tree : Node
group_taken_back-tree = (cat (cat (alt (cat (lookaround (look false false 0 1)
    (cat (capture_group 0 [] (cat (char 97) end_of_cat)) end_of_cat)) (cat (char 97) (cat (char 99) end_of_cat)))
    (cat (char 97) (cat (char 98) end_of_cat))) (cat (back_ref 1 exact) end_of_cat)) (cat goal end_of_cat))

group_taken_back : matches group_taken_back-tree (utf8_text (97 ∷ 98 ∷ []) false) 0 ≡ (found 0 2 (None ∷ []) ∷ [])
unfolding matches
group_taken_back = refl

-- `(?:(?!(b))a|c)+`
abbrev groups_not_kept-tree : Node
groups_not_kept-tree = (cat (cat (loop (times 1 None true) 0 1
    (alt (cat (lookaround (look true false 0 1) (cat (capture_group 0 [] (cat (char 98) end_of_cat)) end_of_cat))
    (cat (char 97) end_of_cat)) (cat (char 99) end_of_cat))) end_of_cat) (cat goal end_of_cat))

groups_not_kept : matches groups_not_kept-tree (utf8_text (97 ∷ 99 ∷ 97 ∷ []) false) 0 ≡ (found 0 3 (None ∷ []) ∷ [])
unfolding matches
groups_not_kept = refl

-- `.`
abbrev three_characters_utf16-tree : Node
three_characters_utf16-tree = (cat (cat match_any_except_line_terminator end_of_cat) (cat goal end_of_cat))

three_characters_utf16 : matches three_characters_utf16-tree (utf16_text (97 ∷ 55357 ∷ 56832 ∷ 97 ∷ []) false)
    0 ≡ (found 0 1 [] ∷ found 1 3 [] ∷ found 3 4 [] ∷ [])
unfolding matches
three_characters_utf16 = refl

-- `.`
abbrev four_units_ucs2-tree : Node
four_units_ucs2-tree = (cat (cat match_any_except_line_terminator end_of_cat) (cat goal end_of_cat))

four_units_ucs2 : matches four_units_ucs2-tree (ucs2_text (97 ∷ 55357 ∷ 56832 ∷ 97 ∷ []) false)
    0 ≡ (found 0 1 [] ∷ found 1 2 [] ∷ found 2 3 [] ∷ found 3 4 [] ∷ [])
unfolding matches
four_units_ucs2 = refl

-- `(?<=(.))$`
abbrev group_behind_utf16-tree : Node
group_behind_utf16-tree = (cat (cat (lookaround (look false true 0 1)
    (cat (capture_group 0 [] (cat match_any_except_line_terminator end_of_cat)) end_of_cat))
    (cat (anchor end_of_line false) end_of_cat)) (cat goal end_of_cat))

group_behind_utf16 : matches group_behind_utf16-tree (utf16_text (55357 ∷ 56832 ∷ []) false)
    0 ≡ (found 2 2 ((Some (0, 2)) ∷ []) ∷ [])
unfolding matches
group_behind_utf16 = refl

-- `(?<=(.))$`
abbrev group_behind_ucs2-tree : Node
group_behind_ucs2-tree = (cat (cat (lookaround (look false true 0 1)
    (cat (capture_group 0 [] (cat match_any_except_line_terminator end_of_cat)) end_of_cat))
    (cat (anchor end_of_line false) end_of_cat)) (cat goal end_of_cat))

group_behind_ucs2 : matches group_behind_ucs2-tree (ucs2_text (55357 ∷ 56832 ∷ []) false)
    0 ≡ (found 2 2 ((Some (1, 2)) ∷ []) ∷ [])
unfolding matches
group_behind_ucs2 = refl

-- `[a-z]`
abbrev letters_utf16-tree : Node
letters_utf16-tree = (cat (cat (bracket (in_brackets false ((97, 122) ∷ []))) end_of_cat) (cat goal end_of_cat))

letters_utf16 : matches letters_utf16-tree (utf16_text (353 ∷ []) false) 0 ≡ []
unfolding matches
letters_utf16 = refl

-- `.`
abbrev from_second_unit-tree : Node
from_second_unit-tree = (cat (cat match_any_except_line_terminator end_of_cat) (cat goal end_of_cat))

from_second_unit : matches from_second_unit-tree (ucs2_text (55357 ∷ 56832 ∷ []) false) 1 ≡ (found 1 2 [] ∷ [])
unfolding matches
from_second_unit = refl

-- A lone surrogate is a character of UTF-16.
abbrev surrogate_utf16-tree : Node
surrogate_utf16-tree = (cat (char 55296) (cat goal end_of_cat))

surrogate_utf16 : matches surrogate_utf16-tree (utf16_text (55296 ∷ []) false) 0 ≡ (found 0 1 [] ∷ [])
unfolding matches
surrogate_utf16 = refl

-- The bytes of `é`.
abbrev sequence_in_the_middle-tree : Node
sequence_in_the_middle-tree = (cat (byte_sequence (195 ∷ 169 ∷ [])) (cat goal end_of_cat))

sequence_in_the_middle : matches sequence_in_the_middle-tree (utf8_text (97 ∷ 195 ∷ 169 ∷ []) false)
    0 ≡ (found 1 3 [] ∷ [])
unfolding matches
sequence_in_the_middle = refl

-- `(?<=a{2,3})b`
abbrev counted_behind-tree : Node
counted_behind-tree = (cat (cat (lookaround (look false true 0 0)
    (cat (loop_1_char_body (times 2 (Some 3) true) (char 97)) end_of_cat)) (cat (char 98) end_of_cat))
    (cat goal end_of_cat))

counted_behind : matches counted_behind-tree (utf8_text (97 ∷ 97 ∷ 97 ∷ 98 ∷ []) false) 0 ≡ (found 3 4 [] ∷ [])
unfolding matches
counted_behind = refl

-- `^a`
abbrev start_of_text-tree : Node
start_of_text-tree = (cat (cat (anchor start_of_line false) (cat (char 97) end_of_cat)) (cat goal end_of_cat))

start_of_text : matches start_of_text-tree (utf8_text (97 ∷ 97 ∷ []) false) 0 ≡ (found 0 1 [] ∷ [])
unfolding matches
start_of_text = refl

-- `^a`
abbrev start_of_text_only-tree : Node
start_of_text_only-tree = (cat (cat (anchor start_of_line false) (cat (char 97) end_of_cat)) (cat goal end_of_cat))

start_of_text_only : matches start_of_text_only-tree (utf8_text (97 ∷ 97 ∷ []) false) 1 ≡ []
unfolding matches
start_of_text_only = refl

-- `^a` m
abbrev start_of_each_line-tree : Node
start_of_each_line-tree = (cat (cat (anchor start_of_line true) (cat (char 97) end_of_cat)) (cat goal end_of_cat))

start_of_each_line : matches start_of_each_line-tree (utf8_text (98 ∷ 10 ∷ 97 ∷ []) false) 0 ≡ (found 2 3 [] ∷ [])
unfolding matches
start_of_each_line = refl

-- `[^a]`
abbrev not_a-tree : Node
not_a-tree = (cat (cat (bracket (in_brackets true ((97, 97) ∷ []))) end_of_cat) (cat goal end_of_cat))

not_a : matches not_a-tree (utf8_text (97 ∷ 195 ∷ 169 ∷ []) false) 0 ≡ (found 1 3 [] ∷ [])
unfolding matches
not_a = refl

-- A lookahead with an empty range of groups past the last group.
abbrev empty_range_of_groups-tree : Node
empty_range_of_groups-tree = (cat (lookaround (look false false 5 5) (char 97)) (cat goal end_of_cat))

empty_range_of_groups : matches empty_range_of_groups-tree (utf8_text (97 ∷ []) false) 0 ≡ (found 0 0 [] ∷ [])
unfolding matches
empty_range_of_groups = refl

-- `(?:(?:a*)*)*`
abbrev nested_empty_loops-tree : Node
nested_empty_loops-tree = (cat (cat (loop (times 0 None true) 0 0
    (cat (loop (times 0 None true) 0 0 (cat (loop_1_char_body (times 0 None true) (char 97)) end_of_cat)) end_of_cat))
    end_of_cat) (cat goal end_of_cat))

nested_empty_loops : matches nested_empty_loops-tree (utf8_text (98 ∷ []) false) 0 ≡ (found 0 0 [] ∷ found 1 1 [] ∷ [])
unfolding matches
nested_empty_loops = refl

-- Empty iterations count until the minimum is reached.
abbrev thousand_empty_iterations-tree : Node
thousand_empty_iterations-tree = (cat (loop (times 1000 (Some 1000) true) 0 0 empty) (cat goal end_of_cat))

thousand_empty_iterations : matches thousand_empty_iterations-tree (utf8_text [] false) 0 ≡ (found 0 0 [] ∷ [])
unfolding matches
thousand_empty_iterations = refl

-- The largest minimum over one character.
abbrev too_many_iterations-tree : Node
too_many_iterations-tree = (cat (loop (times 18446744073709551615 None true) 0 0 (char 97)) (cat goal end_of_cat))

too_many_iterations : matches too_many_iterations-tree (utf8_text (97 ∷ []) false) 0 ≡ []
unfolding matches
too_many_iterations = refl

-- U+110000 is not a character.
abbrev no_such_character-tree : Node
no_such_character-tree = (cat (char 1114112) (cat goal end_of_cat))

no_such_character : matches no_such_character-tree (utf8_text (97 ∷ []) false) 0 ≡ []
unfolding matches
no_such_character = refl
