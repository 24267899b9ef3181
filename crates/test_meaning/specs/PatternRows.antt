-- Patterns and their matches.
use Rattle.std.specs.Prelude.{◌≡◌, Bool, [], ◌∷◌, Some, None, refl, true, false}
use Rattle.std.specs.Char.Unicode.ToUppercase.{to_uppercase, uppercase_runs, uppercase_strings}
use Rattle.std.specs.Char.Unicode.Rows.{by_runs, by_strings}
use Rattle.ucd_table.specs.Rows.{value_in}
use Rattle.ucd_case.specs.CaseFolding.{simple_folding}
use Rattle.ucd_case.specs.SimpleFoldingRows.{simple_folding_rows}
use Rattle.regex_meaning.specs.Canonical.{canonicalize}
use Rattle.regex_meaning.specs.Tree.{Node, goal, char, char_set, byte_sequence, cat, end_of_cat, alt, bracket, string_set, match_any_except_line_terminator, anchor, start_of_line, end_of_line}
use Rattle.regex_meaning.specs.Tree.{word_boundary, capture_group, back_ref, exact, folded, alike, lookaround, loop, loop_1_char_body}
use Rattle.regex_meaning.specs.Text.{utf8_text, utf16_text, ucs2_text}
use Rattle.test_meaning.specs.Computing.{found, matches, times, in_brackets, look}

-- `a|ab`
abbrev alternatives-tree : Node
alternatives-tree =
    (cat (alt (cat (char 97) end_of_cat) (cat (char 97) (cat (char 98) end_of_cat))) (cat goal end_of_cat))

alternatives : matches alternatives-tree (utf8_text (97 ∷ 98 ∷ 99 ∷ []) false) 0 ≡ (found 0 1 [] ∷ [])
unfolding matches
alternatives = refl

-- `((a)|(ab))((c)|(bc))`
abbrev arms_in_order-tree : Node
arms_in_order-tree = (cat (cat (capture_group 0 [] (alt (cat (capture_group 1 [] (cat (char 97) end_of_cat)) end_of_cat)
    (cat (capture_group 2 [] (cat (char 97) (cat (char 98) end_of_cat))) end_of_cat)))
    (cat (capture_group 3 [] (alt (cat (capture_group 4 [] (cat (char 99) end_of_cat)) end_of_cat)
    (cat (capture_group 5 [] (cat (char 98) (cat (char 99) end_of_cat))) end_of_cat))) end_of_cat))
    (cat goal end_of_cat))

arms_in_order : matches arms_in_order-tree (utf8_text (97 ∷ 98 ∷ 99 ∷ []) false)
    0 ≡ (found 0 3 ((Some (0, 1)) ∷ (Some (0, 1)) ∷ None ∷ (Some (1, 3)) ∷ None ∷ (Some (1, 3)) ∷ []) ∷ [])
unfolding matches
arms_in_order = refl

-- `(?<=x)y`
abbrev behind-tree : Node
behind-tree = (cat (cat (lookaround (look false true 0 0) (cat (char 120) end_of_cat)) (cat (char 121) end_of_cat))
    (cat goal end_of_cat))

behind : matches behind-tree (utf8_text (121 ∷ 120 ∷ 121 ∷ []) false) 0 ≡ (found 2 3 [] ∷ [])
unfolding matches
behind = refl

-- `(?<=x)y`
abbrev behind_from-tree : Node
behind_from-tree = (cat (cat (lookaround (look false true 0 0) (cat (char 120) end_of_cat)) (cat (char 121) end_of_cat))
    (cat goal end_of_cat))

behind_from : matches behind_from-tree (utf8_text (120 ∷ 121 ∷ 120 ∷ 121 ∷ []) false)
    1 ≡ (found 1 2 [] ∷ found 3 4 [] ∷ [])
unfolding matches
behind_from = refl

-- `a*`
abbrev empty_matches-tree : Node
empty_matches-tree = (cat (cat (loop_1_char_body (times 0 None true) (char 97)) end_of_cat) (cat goal end_of_cat))

empty_matches : matches empty_matches-tree (utf8_text (97 ∷ 97 ∷ 98 ∷ []) false)
    0 ≡ (found 0 2 [] ∷ found 2 2 [] ∷ found 3 3 [] ∷ [])
unfolding matches
empty_matches = refl

-- `a*`
abbrev at_the_end-tree : Node
at_the_end-tree = (cat (cat (loop_1_char_body (times 0 None true) (char 97)) end_of_cat) (cat goal end_of_cat))

at_the_end : matches at_the_end-tree (utf8_text (97 ∷ 97 ∷ 98 ∷ []) false) 3 ≡ (found 3 3 [] ∷ [])
unfolding matches
at_the_end = refl

-- `a*`
abbrev past_the_end-tree : Node
past_the_end-tree = (cat (cat (loop_1_char_body (times 0 None true) (char 97)) end_of_cat) (cat goal end_of_cat))

past_the_end : matches past_the_end-tree (utf8_text (97 ∷ 97 ∷ 98 ∷ []) false) 4 ≡ []
unfolding matches
past_the_end = refl

-- `(a|\1b)c`
abbrev group_of_a_failed_arm-tree : Node
group_of_a_failed_arm-tree = (cat (cat (capture_group 0 []
    (alt (cat (char 97) end_of_cat) (cat (back_ref 1 exact) (cat (char 98) end_of_cat)))) (cat (char 99) end_of_cat))
    (cat goal end_of_cat))

group_of_a_failed_arm : matches group_of_a_failed_arm-tree (utf8_text (97 ∷ 98 ∷ 99 ∷ []) false)
    0 ≡ (found 1 3 ((Some (1, 2)) ∷ []) ∷ [])
unfolding matches
group_of_a_failed_arm = refl

-- `^(?:(?:a|ab){2})+$`
abbrev counted_within_counted-tree : Node
counted_within_counted-tree = (cat (cat (anchor start_of_line false)
    (cat (loop (times 1 None true) 0 0 (cat (loop (times 2 (Some 2) true) 0 0
    (alt (cat (char 97) end_of_cat) (cat (char 97) (cat (char 98) end_of_cat)))) end_of_cat))
    (cat (anchor end_of_line false) end_of_cat))) (cat goal end_of_cat))

counted_within_counted : matches counted_within_counted-tree (utf8_text (97 ∷ 97 ∷ 98 ∷ []) false)
    0 ≡ (found 0 3 [] ∷ [])
unfolding matches
counted_within_counted = refl

-- `(z)((a+)?(b+)?(c))*`
abbrev groups_cleared-tree : Node
groups_cleared-tree = (cat (cat (capture_group 0 [] (cat (char 122) end_of_cat))
    (cat (loop (times 0 None true) 1 5 (capture_group 1 []
    (cat (loop (times 0 (Some 1) true) 2 3 (capture_group 2 []
    (cat (loop_1_char_body (times 1 None true) (char 97)) end_of_cat)))
    (cat (loop (times 0 (Some 1) true) 3 4
    (capture_group 3 [] (cat (loop_1_char_body (times 1 None true) (char 98)) end_of_cat)))
    (cat (capture_group 4 [] (cat (char 99) end_of_cat)) end_of_cat))))) end_of_cat))
    (cat goal end_of_cat))

groups_cleared : matches groups_cleared-tree (utf8_text (122 ∷ 97 ∷ 97 ∷ 99 ∷ 98 ∷ 98 ∷ 98 ∷ 99 ∷ 97 ∷ 99 ∷ []) false)
    0 ≡ (found 0 10 ((Some (0, 1)) ∷ (Some (8, 10)) ∷ (Some (8, 9)) ∷ None ∷ (Some (9, 10)) ∷ []) ∷ [])
unfolding matches
groups_cleared = refl

-- `(?=(a+))a*b\1`
abbrev ahead_once-tree : Node
ahead_once-tree = (cat (cat (lookaround (look false false 0 1)
    (cat (capture_group 0 [] (cat (loop_1_char_body (times 1 None true) (char 97)) end_of_cat)) end_of_cat))
    (cat (loop_1_char_body (times 0 None true) (char 97)) (cat (char 98) (cat (back_ref 1 exact) end_of_cat))))
    (cat goal end_of_cat))

ahead_once : matches ahead_once-tree (utf8_text (98 ∷ 97 ∷ 97 ∷ 97 ∷ 98 ∷ 97 ∷ 99 ∷ []) false)
    0 ≡ (found 3 6 ((Some (3, 4)) ∷ []) ∷ [])
unfolding matches
ahead_once = refl

-- `(.*?)a(?!(a+)b\2c)\2(.*)`
abbrev not_ahead-tree : Node
not_ahead-tree = (cat (cat (capture_group 0 [] (cat
    (loop_1_char_body (times 0 None false) match_any_except_line_terminator) end_of_cat))
    (cat (char 97) (cat (lookaround (look true false 1 2)
    (cat (capture_group 1 [] (cat (loop_1_char_body (times 1 None true) (char 97)) end_of_cat))
    (cat (char 98) (cat (back_ref 2 exact) (cat (char 99) end_of_cat)))))
    (cat (back_ref 2 exact) (cat (capture_group 2 []
    (cat (loop_1_char_body (times 0 None true) match_any_except_line_terminator) end_of_cat))
    end_of_cat))))) (cat goal end_of_cat))

not_ahead : matches not_ahead-tree (utf8_text (98 ∷ 97 ∷ 97 ∷ 97 ∷ 98 ∷ 97 ∷ 97 ∷ 99 ∷ []) false)
    0 ≡ (found 0 8 ((Some (0, 2)) ∷ None ∷ (Some (3, 8)) ∷ []) ∷ [])
unfolding matches
not_ahead = refl

-- `(a*)*`
abbrev empty_iteration_dropped-tree : Node
empty_iteration_dropped-tree = (cat (cat (loop (times 0 None true) 0 1
    (capture_group 0 [] (cat (loop_1_char_body (times 0 None true) (char 97)) end_of_cat))) end_of_cat)
    (cat goal end_of_cat))

empty_iteration_dropped : matches empty_iteration_dropped-tree (utf8_text (98 ∷ []) false)
    0 ≡ (found 0 0 (None ∷ []) ∷ found 1 1 (None ∷ []) ∷ [])
unfolding matches
empty_iteration_dropped = refl

-- `(a*)b\1+`
abbrev empty_group_again-tree : Node
empty_group_again-tree = (cat (cat (capture_group 0 []
    (cat (loop_1_char_body (times 0 None true) (char 97)) end_of_cat))
    (cat (char 98) (cat (loop (times 1 None true) 1 1 (back_ref 1 exact)) end_of_cat))) (cat goal end_of_cat))

empty_group_again : matches empty_group_again-tree (utf8_text (98 ∷ 97 ∷ 97 ∷ 97 ∷ 97 ∷ 99 ∷ []) false)
    0 ≡ (found 0 1 ((Some (0, 0)) ∷ []) ∷ [])
unfolding matches
empty_group_again = refl

-- `(?<=(\d+)(\d+))$`
abbrev behind_backwards-tree : Node
behind_backwards-tree = (cat (cat (lookaround (look false true 0 2)
    (cat (capture_group 1 [] (cat (loop_1_char_body (times 1 None true) (bracket (in_brackets false ((48, 57) ∷ []))))
    end_of_cat)) (cat (capture_group 0 [] (cat (loop_1_char_body (times 1 None true)
    (bracket (in_brackets false ((48, 57) ∷ [])))) end_of_cat)) end_of_cat)))
    (cat (anchor end_of_line false) end_of_cat)) (cat goal end_of_cat))

behind_backwards : matches behind_backwards-tree (utf8_text (49 ∷ 48 ∷ 53 ∷ 51 ∷ []) false)
    0 ≡ (found 4 4 ((Some (0, 1)) ∷ (Some (1, 4)) ∷ []) ∷ [])
unfolding matches
behind_backwards = refl

-- `.`
abbrev pair_utf16-tree : Node
pair_utf16-tree = (cat (cat match_any_except_line_terminator end_of_cat) (cat goal end_of_cat))

pair_utf16 : matches pair_utf16-tree (utf16_text (55357 ∷ 56832 ∷ []) false) 0 ≡ (found 0 2 [] ∷ [])
unfolding matches
pair_utf16 = refl

-- `.`
abbrev pair_ucs2-tree : Node
pair_ucs2-tree = (cat (cat match_any_except_line_terminator end_of_cat) (cat goal end_of_cat))

pair_ucs2 : matches pair_ucs2-tree (ucs2_text (55357 ∷ 56832 ∷ []) false) 0 ≡ (found 0 1 [] ∷ found 1 2 [] ∷ [])
unfolding matches
pair_ucs2 = refl

-- `.`
abbrev reversed_pair_utf16-tree : Node
reversed_pair_utf16-tree = (cat (cat match_any_except_line_terminator end_of_cat) (cat goal end_of_cat))

reversed_pair_utf16 : matches reversed_pair_utf16-tree (utf16_text (56832 ∷ 55357 ∷ []) false)
    0 ≡ (found 0 1 [] ∷ found 1 2 [] ∷ [])
unfolding matches
reversed_pair_utf16 = refl

-- `.`
abbrev reversed_pair_ucs2-tree : Node
reversed_pair_ucs2-tree = (cat (cat match_any_except_line_terminator end_of_cat) (cat goal end_of_cat))

reversed_pair_ucs2 : matches reversed_pair_ucs2-tree (ucs2_text (56832 ∷ 55357 ∷ []) false)
    0 ≡ (found 0 1 [] ∷ found 1 2 [] ∷ [])
unfolding matches
reversed_pair_ucs2 = refl

-- `(.)\1`
abbrev half_pair_utf16-tree : Node
half_pair_utf16-tree = (cat (cat (capture_group 0 [] (cat match_any_except_line_terminator end_of_cat))
    (cat (back_ref 1 exact) end_of_cat)) (cat goal end_of_cat))

half_pair_utf16 : matches half_pair_utf16-tree (utf16_text (55357 ∷ 55357 ∷ 56832 ∷ []) false) 0 ≡ []
unfolding matches
half_pair_utf16 = refl

-- `(.)\1`
abbrev half_pair_ucs2-tree : Node
half_pair_ucs2-tree = (cat (cat (capture_group 0 [] (cat match_any_except_line_terminator end_of_cat))
    (cat (back_ref 1 exact) end_of_cat)) (cat goal end_of_cat))

half_pair_ucs2 : matches half_pair_ucs2-tree (ucs2_text (55357 ∷ 55357 ∷ 56832 ∷ []) false)
    0 ≡ (found 0 2 ((Some (0, 1)) ∷ []) ∷ [])
unfolding matches
half_pair_ucs2 = refl

-- `(k)\1` iu
abbrev same_fold-tree : Node
same_fold-tree = (cat (cat (capture_group 0 [] (cat (char_set (75 ∷ 107 ∷ 8490 ∷ [])) end_of_cat))
    (cat (back_ref 1 folded) end_of_cat)) (cat goal end_of_cat))

same_fold : matches same_fold-tree (utf8_text (107 ∷ 226 ∷ 132 ∷ 170 ∷ []) true)
    0 ≡ (found 0 4 ((Some (0, 1)) ∷ []) ∷ [])
unfolding matches
same_fold = refl

-- `(.)\1` with characters that are compared by `canonicalize`, regardless of the text's folding.
abbrev alike-tree : (unicode : Bool) → Node
alike-tree unicode = (cat (cat (capture_group 0 [] (cat match_any_except_line_terminator end_of_cat))
    (cat (back_ref 1 (alike unicode)) end_of_cat)) (cat goal end_of_cat))

-- `ÿŸ`
alike_in_uppercase : matches (alike-tree false) (utf8_text (195 ∷ 191 ∷ 197 ∷ 184 ∷ []) true)
    0 ≡ (found 0 4 ((Some (0, 2)) ∷ []) ∷ [])
unfolding matches canonicalize to_uppercase uppercase_runs uppercase_strings by_runs by_strings
alike_in_uppercase = refl

-- `ſs` with `u`, and without
alike_by_folding : matches (alike-tree true) (utf8_text (197 ∷ 191 ∷ 115 ∷ []) false)
    0 ≡ (found 0 3 ((Some (0, 2)) ∷ []) ∷ [])
unfolding matches canonicalize simple_folding simple_folding_rows value_in
alike_by_folding = refl

not_alike_in_uppercase : matches (alike-tree false) (utf8_text (197 ∷ 191 ∷ 115 ∷ []) true) 0 ≡ []
unfolding matches canonicalize to_uppercase uppercase_runs uppercase_strings by_runs by_strings
not_alike_in_uppercase = refl

-- `(?<=(?<a>x)(?<b>y))z`
abbrev names_behind-tree : Node
names_behind-tree = (cat (cat (lookaround (look false true 0 2)
    (cat (capture_group 1 (98 ∷ []) (cat (char 121) end_of_cat))
    (cat (capture_group 0 (97 ∷ []) (cat (char 120) end_of_cat)) end_of_cat))) (cat (char 122) end_of_cat))
    (cat goal end_of_cat))

names_behind : matches names_behind-tree (utf8_text (120 ∷ 121 ∷ 122 ∷ []) false)
    0 ≡ (found 2 3 ((Some (0, 1)) ∷ (Some (1, 2)) ∷ []) ∷ [])
unfolding matches
names_behind = refl

-- A one-character loop over a character that no text has, followed by `a`.
abbrev surrogate_not_at_all-tree : Node
surrogate_not_at_all-tree =
    (cat (loop_1_char_body (times 0 None true) (char 55296)) (cat (char 97) (cat goal end_of_cat)))

surrogate_not_at_all : matches surrogate_not_at_all-tree (utf8_text (97 ∷ []) false) 0 ≡ (found 0 1 [] ∷ [])
unfolding matches
surrogate_not_at_all = refl

-- A string set in a lookbehind: `ab` is in reading order.
abbrev strings_behind-tree : Node
strings_behind-tree =
    (cat (lookaround (look false true 0 0) (string_set ((97 ∷ 98 ∷ []) ∷ []) false)) (cat goal end_of_cat))

strings_behind : matches strings_behind-tree (utf8_text (97 ∷ 98 ∷ []) false) 0 ≡ (found 2 2 [] ∷ [])
unfolding matches
strings_behind = refl

-- A sequence of 17 bytes in a lookbehind.
abbrev long_sequence_behind-tree : Node
long_sequence_behind-tree = (cat (lookaround (look false true 0 0)
    (byte_sequence (97 ∷ 98 ∷ 99 ∷ 100 ∷ 101 ∷ 102 ∷ 103 ∷ 104 ∷ 105 ∷ 106 ∷ 107 ∷ 108 ∷ 109 ∷ 110 ∷ 111 ∷ 112 ∷ 113
    ∷ []))) (cat goal end_of_cat))

long_sequence_behind : matches long_sequence_behind-tree
    (utf8_text (97 ∷ 98 ∷ 99 ∷ 100 ∷ 101 ∷ 102 ∷ 103 ∷ 104 ∷ 105 ∷ 106 ∷ 107 ∷ 108 ∷ 109 ∷ 110 ∷ 111 ∷ 112 ∷ 113 ∷ [])
    false) 0 ≡ (found 17 17 [] ∷ [])
unfolding matches
long_sequence_behind = refl

-- `(\d{4})-(\d{2})-(\d{2})`
abbrev date-tree : Node
date-tree = (cat (cat (capture_group 0 [] (cat (loop_1_char_body (times 4 (Some 4) true)
    (bracket (in_brackets false ((48, 57) ∷ [])))) end_of_cat))
    (cat (char 45) (cat (capture_group 1 [] (cat
    (loop_1_char_body (times 2 (Some 2) true) (bracket (in_brackets false ((48, 57) ∷ [])))) end_of_cat))
    (cat (char 45) (cat (capture_group 2 []
    (cat (loop_1_char_body (times 2 (Some 2) true) (bracket (in_brackets false ((48, 57) ∷ []))))
    end_of_cat)) end_of_cat))))) (cat goal end_of_cat))

date : matches date-tree (utf8_text (50 ∷ 48 ∷ 50 ∷ 51 ∷ 45 ∷ 49 ∷ 50 ∷ 45 ∷ 50 ∷ 53 ∷ []) false)
    0 ≡ (found 0 10 ((Some (0, 4)) ∷ (Some (5, 7)) ∷ (Some (8, 10)) ∷ []) ∷ [])
unfolding matches
date = refl

-- `(?=\d)`
abbrev before_digits-tree : Node
before_digits-tree = (cat (cat (lookaround (look false false 0 0)
    (cat (bracket (in_brackets false ((48, 57) ∷ []))) end_of_cat)) end_of_cat) (cat goal end_of_cat))

before_digits : matches before_digits-tree (utf8_text (97 ∷ 49 ∷ 98 ∷ 50 ∷ 99 ∷ []) false)
    0 ≡ (found 1 1 [] ∷ found 3 3 [] ∷ [])
unfolding matches
before_digits = refl

-- Two arms, each with a group named `n`.
abbrev two_groups_of_one_name-tree : Node
two_groups_of_one_name-tree =
    (cat (alt (capture_group 0 (110 ∷ []) (char 97)) (capture_group 1 (110 ∷ []) (char 98))) (cat goal end_of_cat))

two_groups_of_one_name : matches two_groups_of_one_name-tree (utf8_text (98 ∷ []) false)
    0 ≡ (found 0 1 (None ∷ (Some (0, 1)) ∷ []) ∷ [])
unfolding matches
two_groups_of_one_name = refl

-- `^(\w+)=(\d+)`
abbrev anchored_words-tree : Node
anchored_words-tree = (cat (cat (anchor start_of_line false)
    (cat (capture_group 0 [] (cat (loop_1_char_body (times 1 None true)
    (bracket (in_brackets false ((48, 57) ∷ (65, 90) ∷ (95, 95) ∷ (97, 122) ∷ [])))) end_of_cat))
    (cat (char 61) (cat (capture_group 1 []
    (cat (loop_1_char_body (times 1 None true) (bracket (in_brackets false ((48, 57) ∷ [])))) end_of_cat))
    end_of_cat)))) (cat goal end_of_cat))

anchored_words : matches anchored_words-tree (utf8_text
    (107 ∷ 101 ∷ 121 ∷ 61 ∷ 49 ∷ 50 ∷ 51 ∷ 32 ∷ 111 ∷ 116 ∷ 104 ∷ 101 ∷ 114 ∷ 61 ∷ 52 ∷ 53 ∷ 54 ∷ []) false)
    0 ≡ (found 0 7 ((Some (0, 3)) ∷ (Some (4, 7)) ∷ []) ∷ [])
unfolding matches
anchored_words = refl

-- `^(\w+)=(\d+)`
abbrev anchored_nowhere-tree : Node
anchored_nowhere-tree = (cat (cat (anchor start_of_line false)
    (cat (capture_group 0 [] (cat (loop_1_char_body (times 1 None true)
    (bracket (in_brackets false ((48, 57) ∷ (65, 90) ∷ (95, 95) ∷ (97, 122) ∷ [])))) end_of_cat))
    (cat (char 61) (cat (capture_group 1 []
    (cat (loop_1_char_body (times 1 None true) (bracket (in_brackets false ((48, 57) ∷ [])))) end_of_cat))
    end_of_cat)))) (cat goal end_of_cat))

anchored_nowhere : matches anchored_nowhere-tree (utf8_text (32 ∷ 107 ∷ 101 ∷ 121 ∷ 61 ∷ 49 ∷ 50 ∷ 51 ∷ []) false)
    0 ≡ []
unfolding matches
anchored_nowhere = refl

-- `.*b`
abbrev moved_by_characters-tree : Node
moved_by_characters-tree = (cat (cat (loop_1_char_body (times 0 None true) match_any_except_line_terminator)
    (cat (char 98) end_of_cat)) (cat goal end_of_cat))

moved_by_characters : matches moved_by_characters-tree (utf8_text (98 ∷ 195 ∷ 169 ∷ []) false) 0 ≡ (found 0 1 [] ∷ [])
unfolding matches
moved_by_characters = refl

-- `(?:a?){3}`
abbrev empty_iterations_counted-tree : Node
empty_iterations_counted-tree = (cat (cat (loop (times 3 (Some 3) true) 0 0
    (cat (loop_1_char_body (times 0 (Some 1) true) (char 97)) end_of_cat)) end_of_cat) (cat goal end_of_cat))

empty_iterations_counted : matches empty_iterations_counted-tree (utf8_text [] false) 0 ≡ (found 0 0 [] ∷ [])
unfolding matches
empty_iterations_counted = refl

-- `(aa|aabaac|ba|b|c)*`
abbrev cleared_then_left-tree : Node
cleared_then_left-tree = (cat (cat (loop (times 0 None true) 0 1
    (capture_group 0 [] (alt (cat (char 97) (cat (char 97) end_of_cat))
    (alt (cat (char 97) (cat (char 97) (cat (char 98) (cat (char 97) (cat (char 97) (cat (char 99) end_of_cat))))))
    (alt (cat (char 98) (cat (char 97) end_of_cat))
    (alt (cat (char 98) end_of_cat) (cat (char 99) end_of_cat))))))) end_of_cat) (cat goal end_of_cat))

cleared_then_left : matches cleared_then_left-tree (utf8_text (97 ∷ 97 ∷ 98 ∷ 97 ∷ 97 ∷ 99 ∷ []) false)
    0 ≡ (found 0 4 ((Some (2, 4)) ∷ []) ∷ found 4 4 (None ∷ []) ∷ found 5 6 ((Some (5, 6)) ∷ []) ∷ found 6 6
    (None ∷ []) ∷ [])
unfolding matches
cleared_then_left = refl

-- `\b(\w)(\w+)`
abbrev words-tree : Node
words-tree = (cat (cat (word_boundary false false) (cat
    (capture_group 0 [] (cat (bracket (in_brackets false ((48, 57) ∷ (65, 90) ∷ (95, 95) ∷ (97, 122) ∷ [])))
    end_of_cat)) (cat (capture_group 1 [] (cat (loop_1_char_body (times 1 None true)
    (bracket (in_brackets false ((48, 57) ∷ (65, 90) ∷ (95, 95) ∷ (97, 122) ∷ [])))) end_of_cat)) end_of_cat)))
    (cat goal end_of_cat))

words : matches words-tree (utf8_text (104 ∷ 101 ∷ 108 ∷ 108 ∷ 111 ∷ 32 ∷ 119 ∷ 111 ∷ 114 ∷ 108 ∷ 100 ∷ []) false)
    0 ≡ (found 0 5 ((Some (0, 1)) ∷ (Some (1, 5)) ∷ []) ∷ found 6 11 ((Some (6, 7)) ∷ (Some (7, 11)) ∷ []) ∷ [])
unfolding matches
words = refl
