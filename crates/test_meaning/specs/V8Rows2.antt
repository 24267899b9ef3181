-- Patterns on texts, part 2, with the results of JavaScript's V8: the same flags, and its indices as
-- byte offsets. The trees are those of the patterns, optimized.
use Rattle.std.specs.Prelude.{◌≡◌, [], ◌∷◌, Some, None, refl, true, false}
use Rattle.regex_meaning.specs.Tree.{goal, char, char_set, cat, end_of_cat, alt, bracket, match_any_except_line_terminator, anchor, start_of_line, end_of_line, word_boundary, capture_group, back_ref}
use Rattle.regex_meaning.specs.Tree.{exact, folded, lookaround, loop, loop_1_char_body}
use Rattle.regex_meaning.specs.Text.{utf8_text}
use Rattle.test_meaning.specs.Computing.{found, matches, times, in_brackets, look}

-- `(((?:(a)){2,3}?))` on `abbbabc`
judged_2_01 : matches (cat (cat (capture_group 0 []
    (cat (capture_group 1 [] (cat (loop (times 2 (Some 3) false) 2 3
    (cat (capture_group 2 [] (cat (char 97) end_of_cat)) end_of_cat)) end_of_cat)) end_of_cat)) end_of_cat)
    (cat goal end_of_cat)) (utf8_text (97 ∷ 98 ∷ 98 ∷ 98 ∷ 97 ∷ 98 ∷ 99 ∷ []) false) 0 ≡ []
unfolding matches
judged_2_01 = refl

-- `a` on `bbbbaa`
judged_2_02 : matches (cat (cat (char 97) end_of_cat) (cat goal end_of_cat))
    (utf8_text (98 ∷ 98 ∷ 98 ∷ 98 ∷ 97 ∷ 97 ∷ []) false) 0 ≡ (found 4 5 [] ∷ found 5 6 [] ∷ [])
unfolding matches
judged_2_02 = refl

-- `^b` on `bcbbbaa`
judged_2_03 : matches (cat (cat (anchor start_of_line false) (cat (char 98) end_of_cat)) (cat goal end_of_cat))
    (utf8_text (98 ∷ 99 ∷ 98 ∷ 98 ∷ 98 ∷ 97 ∷ 97 ∷ []) false) 0 ≡ (found 0 1 [] ∷ [])
unfolding matches
judged_2_03 = refl

-- `^a(?:(?:a){2}|ba)$` on `aacbab`
judged_2_04 : matches (cat (cat (anchor start_of_line false)
    (cat (char 97) (cat (alt (cat (loop (times 2 (Some 2) true) 0 0 (cat (char 97) end_of_cat)) end_of_cat)
    (cat (char 98) (cat (char 97) end_of_cat))) (cat (anchor end_of_line false) end_of_cat))))
    (cat goal end_of_cat)) (utf8_text (97 ∷ 97 ∷ 99 ∷ 98 ∷ 97 ∷ 98 ∷ []) false) 0 ≡ []
unfolding matches
judged_2_04 = refl

-- `(?:a){2}` on `cb`
judged_2_05 : matches (cat (cat (loop (times 2 (Some 2) true) 0 0 (cat (char 97) end_of_cat)) end_of_cat)
    (cat goal end_of_cat)) (utf8_text (99 ∷ 98 ∷ []) false) 0 ≡ []
unfolding matches
judged_2_05 = refl

-- `a` on `abcc`
judged_2_06 : matches (cat (cat (char 97) end_of_cat) (cat goal end_of_cat)) (utf8_text (97 ∷ 98 ∷ 99 ∷ 99 ∷ []) false)
    0 ≡ (found 0 1 [] ∷ [])
unfolding matches
judged_2_06 = refl

-- `a` on `aaacbb`
judged_2_07 : matches (cat (cat (char 97) end_of_cat) (cat goal end_of_cat))
    (utf8_text (97 ∷ 97 ∷ 97 ∷ 99 ∷ 98 ∷ 98 ∷ []) false) 0 ≡ (found 0 1 [] ∷ found 1 2 [] ∷ found 2 3 [] ∷ [])
unfolding matches
judged_2_07 = refl

-- `^(?:(?:(a)){3}a){3}` on `aa`
judged_2_08 : matches (cat (cat (anchor start_of_line false)
    (cat (loop (times 3 (Some 3) true) 0 1 (cat (loop (times 3 (Some 3) true) 0 1
    (cat (capture_group 0 [] (cat (char 97) end_of_cat)) end_of_cat)) (cat (char 97) end_of_cat))) end_of_cat))
    (cat goal end_of_cat)) (utf8_text (97 ∷ 97 ∷ []) false) 0 ≡ []
unfolding matches
judged_2_08 = refl

-- `^((?:(?:a)*)?)` on `aacbb`
judged_2_09 : matches (cat (cat (anchor start_of_line false)
    (cat (capture_group 0 [] (cat (loop (times 0 (Some 1) true) 1 1
    (cat (loop (times 0 None true) 1 1 (cat (char 97) end_of_cat)) end_of_cat)) end_of_cat)) end_of_cat))
    (cat goal end_of_cat)) (utf8_text (97 ∷ 97 ∷ 99 ∷ 98 ∷ 98 ∷ []) false)
    0 ≡ (found 0 2 (Some (0, 2) ∷ []) ∷ [])
unfolding matches
judged_2_09 = refl

-- `^(?:a(?:b){1,2}){0,2}?\b` on `bbaca`
judged_2_10 : matches (cat (cat (anchor start_of_line false)
    (cat (loop (times 0 (Some 2) false) 0 0 (cat (char 97)
    (cat (loop (times 1 (Some 2) true) 0 0 (cat (char 98) end_of_cat)) end_of_cat)))
    (cat (word_boundary false false) end_of_cat))) (cat goal end_of_cat))
    (utf8_text (98 ∷ 98 ∷ 97 ∷ 99 ∷ 97 ∷ []) false) 0 ≡ (found 0 0 [] ∷ [])
unfolding matches
judged_2_10 = refl

-- `(((b)))c` on `aabab`
judged_2_11 : matches (cat (cat (capture_group 0 []
    (cat (capture_group 1 [] (cat (capture_group 2 [] (cat (char 98) end_of_cat)) end_of_cat)) end_of_cat))
    (cat (char 99) end_of_cat)) (cat goal end_of_cat)) (utf8_text (97 ∷ 97 ∷ 98 ∷ 97 ∷ 98 ∷ []) false) 0 ≡ []
unfolding matches
judged_2_11 = refl

-- `(?:((?:(b))??)){0,2}?b` on `c`
judged_2_12 : matches (cat (cat (loop (times 0 (Some 2) false) 0 2
    (cat (capture_group 0 [] (cat (loop (times 0 (Some 1) false) 1 2
    (cat (capture_group 1 [] (cat (char 98) end_of_cat)) end_of_cat)) end_of_cat)) end_of_cat))
    (cat (char 98) end_of_cat)) (cat goal end_of_cat)) (utf8_text (99 ∷ []) false) 0 ≡ []
unfolding matches
judged_2_12 = refl

-- `^(((?:a){3})(?:\2)+?)` on `aabbc`
judged_2_13 : matches (cat (cat (anchor start_of_line false)
    (cat (capture_group 0 [] (cat (capture_group 1 []
    (cat (loop (times 3 (Some 3) true) 2 2 (cat (char 97) end_of_cat)) end_of_cat))
    (cat (loop (times 1 None false) 2 2 (cat (back_ref 2 exact) end_of_cat)) end_of_cat))) end_of_cat))
    (cat goal end_of_cat)) (utf8_text (97 ∷ 97 ∷ 98 ∷ 98 ∷ 99 ∷ []) false) 0 ≡ []
unfolding matches
judged_2_13 = refl

-- `^a` on `cbbcaa`
judged_2_14 : matches (cat (cat (anchor start_of_line false) (cat (char 97) end_of_cat)) (cat goal end_of_cat))
    (utf8_text (99 ∷ 98 ∷ 98 ∷ 99 ∷ 97 ∷ 97 ∷ []) false) 0 ≡ []
unfolding matches
judged_2_14 = refl

-- `bab` on `cb`
judged_2_15 : matches (cat (cat (char 98) (cat (char 97) (cat (char 98) end_of_cat))) (cat goal end_of_cat))
    (utf8_text (99 ∷ 98 ∷ []) false) 0 ≡ []
unfolding matches
judged_2_15 = refl

-- `a` on `babaaa`
judged_2_16 : matches (cat (cat (char 97) end_of_cat) (cat goal end_of_cat))
    (utf8_text (98 ∷ 97 ∷ 98 ∷ 97 ∷ 97 ∷ 97 ∷ []) false)
    0 ≡ (found 1 2 [] ∷ found 3 4 [] ∷ found 4 5 [] ∷ found 5 6 [] ∷ [])
unfolding matches
judged_2_16 = refl

-- `(\1aaa)b` on `bbabbaa`
judged_2_17 : matches (cat (cat (capture_group 0 []
    (cat (back_ref 1 exact) (cat (char 97) (cat (char 97) (cat (char 97) end_of_cat))))) (cat (char 98) end_of_cat))
    (cat goal end_of_cat)) (utf8_text (98 ∷ 98 ∷ 97 ∷ 98 ∷ 98 ∷ 97 ∷ 97 ∷ []) false) 0 ≡ []
unfolding matches
judged_2_17 = refl

-- `(?:a|(?:(b))??)(?:(?:(?<=b)|(?:\1|a))|(?:a){3}a\1)` on `cab`
judged_2_18 : matches (cat (cat (alt (cat (char 97) end_of_cat)
    (cat (loop (times 0 (Some 1) false) 0 1 (cat (capture_group 0 [] (cat (char 98) end_of_cat)) end_of_cat))
    end_of_cat)) (cat (alt (cat (alt (cat (lookaround (look false true 1 1) (cat (char 98) end_of_cat)) end_of_cat)
    (cat (alt (cat (back_ref 1 exact) end_of_cat) (cat (char 97) end_of_cat)) end_of_cat)) end_of_cat)
    (cat (loop (times 3 (Some 3) true) 1 1 (cat (char 97) end_of_cat))
    (cat (char 97) (cat (back_ref 1 exact) end_of_cat)))) end_of_cat)) (cat goal end_of_cat))
    (utf8_text (99 ∷ 97 ∷ 98 ∷ []) false)
    0 ≡ (found 0 0 (None ∷ []) ∷ found 1 2 (None ∷ []) ∷ found 2 2 (None ∷ []) ∷ found 3 3
    (None ∷ []) ∷ [])
unfolding matches
judged_2_18 = refl

-- `a` on `abc`
judged_2_19 : matches (cat (cat (char 97) end_of_cat) (cat goal end_of_cat)) (utf8_text (97 ∷ 98 ∷ 99 ∷ []) false)
    0 ≡ (found 0 1 [] ∷ [])
unfolding matches
judged_2_19 = refl

-- `((?:(?:b)?|aa)a)` on `ac`
judged_2_20 : matches (cat (cat (capture_group 0 []
    (cat (alt (cat (loop (times 0 (Some 1) true) 1 1 (cat (char 98) end_of_cat)) end_of_cat)
    (cat (char 97) (cat (char 97) end_of_cat))) (cat (char 97) end_of_cat))) end_of_cat) (cat goal end_of_cat))
    (utf8_text (97 ∷ 99 ∷ []) false) 0 ≡ (found 0 1 (Some (0, 1) ∷ []) ∷ [])
unfolding matches
judged_2_20 = refl

-- `(?=((?:a|a))((?:)??))` on `abc`
judged_2_21 : matches (cat (cat (lookaround (look false false 0 2)
    (cat (capture_group 0 [] (cat (alt (cat (char 97) end_of_cat) (cat (char 97) end_of_cat)) end_of_cat))
    (cat (capture_group 1 [] (cat (loop (times 0 (Some 1) false) 2 2 end_of_cat) end_of_cat)) end_of_cat)))
    end_of_cat) (cat goal end_of_cat)) (utf8_text (97 ∷ 98 ∷ 99 ∷ []) false)
    0 ≡ (found 0 0 (Some (0, 1) ∷ Some (1, 1) ∷ []) ∷ [])
unfolding matches
judged_2_21 = refl

-- `b$` on `abcc`
judged_2_22 : matches (cat (cat (char 98) (cat (anchor end_of_line false) end_of_cat)) (cat goal end_of_cat))
    (utf8_text (97 ∷ 98 ∷ 99 ∷ 99 ∷ []) false) 0 ≡ []
unfolding matches
judged_2_22 = refl

-- `a(?:b){2,}(?:a|b)` on `babacb`
judged_2_23 : matches (cat (cat (char 97) (cat (loop (times 2 None true) 0 0 (cat (char 98) end_of_cat))
    (cat (alt (cat (char 97) end_of_cat) (cat (char 98) end_of_cat)) end_of_cat))) (cat goal end_of_cat))
    (utf8_text (98 ∷ 97 ∷ 98 ∷ 97 ∷ 99 ∷ 98 ∷ []) false) 0 ≡ []
unfolding matches
judged_2_23 = refl

-- `(?:(a)()){2,}` on `aba`
judged_2_24 : matches (cat (cat (loop (times 2 None true) 0 2
    (cat (capture_group 0 [] (cat (char 97) end_of_cat)) (cat (capture_group 1 [] end_of_cat) end_of_cat))) end_of_cat)
    (cat goal end_of_cat)) (utf8_text (97 ∷ 98 ∷ 97 ∷ []) false) 0 ≡ []
unfolding matches
judged_2_24 = refl

-- `(?:(?:(?:a)??aa){0,2}?)+?` on `aaaaaa`
judged_2_25 : matches (cat (cat (loop (times 1 None false) 0 0
    (cat (loop (times 0 (Some 2) false) 0 0 (cat (loop (times 0 (Some 1) false) 0 0 (cat (char 97) end_of_cat))
    (cat (char 97) (cat (char 97) end_of_cat)))) end_of_cat)) end_of_cat) (cat goal end_of_cat))
    (utf8_text (97 ∷ 97 ∷ 97 ∷ 97 ∷ 97 ∷ 97 ∷ []) false)
    0 ≡ (found 0 0 [] ∷ found 1 1 [] ∷ found 2 2 [] ∷ found 3 3 [] ∷ found 4 4 [] ∷ found 5 5 [] ∷ found 6 6
    [] ∷ [])
unfolding matches
judged_2_25 = refl

-- `(?:((a))?|a)*?(?!a)` on `aacaca`
judged_2_26 : matches (cat (cat (loop (times 0 None false) 0 2
    (alt (cat (loop (times 0 (Some 1) true) 0 2 (capture_group 0 []
    (cat (capture_group 1 [] (cat (char 97) end_of_cat)) end_of_cat))) end_of_cat) (cat (char 97) end_of_cat)))
    (cat (lookaround (look true false 2 2) (cat (char 97) end_of_cat)) end_of_cat)) (cat goal end_of_cat))
    (utf8_text (97 ∷ 97 ∷ 99 ∷ 97 ∷ 99 ∷ 97 ∷ []) false)
    0 ≡ (found 0 2 (Some (1, 2) ∷ Some (1, 2) ∷ []) ∷ found 2 2 (None ∷ None ∷ []) ∷ found 3 4
    (Some (3, 4) ∷ Some (3, 4) ∷ []) ∷ found 4 4 (None ∷ None ∷ []) ∷ found 5 6
    (Some (5, 6) ∷ Some (5, 6) ∷ []) ∷ found 6 6 (None ∷ None ∷ []) ∷ [])
unfolding matches
judged_2_26 = refl

-- `(?:(bab*)*)*?c` of flags `m` on `cbbaaa`
judged_2_27 : matches (cat (cat (loop (times 0 None false) 0 1
    (cat (loop (times 0 None true) 0 1 (capture_group 0 []
    (cat (char 98) (cat (char 97) (cat (loop_1_char_body (times 0 None true) (char 98)) end_of_cat))))) end_of_cat))
    (cat (char 99) end_of_cat)) (cat goal end_of_cat)) (utf8_text (99 ∷ 98 ∷ 98 ∷ 97 ∷ 97 ∷ 97 ∷ []) false)
    0 ≡ (found 0 1 (None ∷ []) ∷ [])
unfolding matches
judged_2_27 = refl

-- `b?(?:(?:((a|ab)[ab])*(?:(a)a+){2}){2,}(?:(?:(?:b|a?))+|a*?){1,2})+?b` on `aa`
judged_2_28 : matches (cat (cat (loop_1_char_body (times 0 (Some 1) true) (char 98))
    (cat (loop (times 1 None false) 0 3 (cat (loop (times 2 None true) 0 3
    (cat (loop (times 0 None true) 0 2 (capture_group 0 []
    (cat (capture_group 1 [] (alt (cat (char 97) end_of_cat) (cat (char 97) (cat (char 98) end_of_cat))))
    (cat (bracket (in_brackets false ((97, 98) ∷ []))) end_of_cat))))
    (cat (loop (times 2 (Some 2) true) 2 3
    (cat (capture_group 2 [] (cat (char 97) end_of_cat))
    (cat (loop_1_char_body (times 1 None true) (char 97)) end_of_cat))) end_of_cat)))
    (cat (loop (times 1 (Some 2) true) 3 3
    (alt (cat (loop (times 1 None true) 3 3
    (cat (alt (cat (char 98) end_of_cat)
    (cat (loop_1_char_body (times 0 (Some 1) true) (char 97)) end_of_cat))
    end_of_cat)) end_of_cat)
    (cat (loop_1_char_body (times 0 None false) (char 97)) end_of_cat)))
    end_of_cat))) (cat (char 98) end_of_cat)))
    (cat goal end_of_cat)) (utf8_text (97 ∷ 97 ∷ []) false)
    0 ≡ []
unfolding matches
judged_2_28 = refl

-- `^(?:(?:(?:(?=a)ab){2}(?:(?=a)\b){2}){3}){3}c` of flags `u` on `baabaaab`
judged_2_29 : matches (cat (cat (anchor start_of_line false)
    (cat (loop (times 3 (Some 3) true) 0 0 (cat (loop (times 3 (Some 3) true) 0 0
    (cat (loop (times 2 (Some 2) true) 0 0 (cat (lookaround (look false false 0 0) (cat (char 97) end_of_cat))
    (cat (char 97) (cat (char 98) end_of_cat))))
    (cat (loop (times 2 (Some 2) true) 0 0
    (cat (lookaround (look false false 0 0) (cat (char 97) end_of_cat))
    (cat (word_boundary false false) end_of_cat))) end_of_cat))) end_of_cat))
    (cat (char 99) end_of_cat))) (cat goal end_of_cat))
    (utf8_text (98 ∷ 97 ∷ 97 ∷ 98 ∷ 97 ∷ 97 ∷ 97 ∷ 98 ∷ []) true) 0 ≡ []
unfolding matches
judged_2_29 = refl

-- `(?:((?:ba(b))+|(?:b|a?)){2,}|a?){2,3}.b` on `baa`
judged_2_30 : matches (cat (cat (loop (times 2 (Some 3) true) 0 2
    (alt (cat (loop (times 2 None true) 0 2 (capture_group 0 []
    (alt (cat (loop (times 1 None true) 1 2 (cat (char 98)
    (cat (char 97) (cat (capture_group 1 [] (cat (char 98) end_of_cat)) end_of_cat)))) end_of_cat)
    (cat (alt (cat (char 98) end_of_cat)
    (cat (loop_1_char_body (times 0 (Some 1) true) (char 97)) end_of_cat)) end_of_cat)))) end_of_cat)
    (cat (loop_1_char_body (times 0 (Some 1) true) (char 97)) end_of_cat)))
    (cat match_any_except_line_terminator (cat (char 98) end_of_cat))) (cat goal end_of_cat))
    (utf8_text (98 ∷ 97 ∷ 97 ∷ []) false) 0 ≡ []
unfolding matches
judged_2_30 = refl

-- `a(?<=(a|a|..))a` of flags `m` on `accbaabb`
judged_2_31 : matches (cat (cat (char 97) (cat (lookaround (look false true 0 1)
    (cat (capture_group 0 [] (alt (cat (char 97) end_of_cat)
    (alt (cat (char 97) end_of_cat) (cat match_any_except_line_terminator
    (cat match_any_except_line_terminator end_of_cat))))) end_of_cat)) (cat (char 97) end_of_cat)))
    (cat goal end_of_cat)) (utf8_text (97 ∷ 99 ∷ 99 ∷ 98 ∷ 97 ∷ 97 ∷ 98 ∷ 98 ∷ []) false)
    0 ≡ (found 4 6 (Some (4, 5) ∷ []) ∷ [])
unfolding matches
judged_2_31 = refl

-- `(a*b|\1(?=\1))(?!a)` of flags `u` on `acb`
judged_2_32 : matches (cat (cat (capture_group 0 []
    (alt (cat (loop_1_char_body (times 0 None true) (char 97)) (cat (char 98) end_of_cat))
    (cat (back_ref 1 exact) (cat (lookaround (look false false 1 1) (cat (back_ref 1 exact) end_of_cat))
    end_of_cat)))) (cat (lookaround (look true false 1 1) (cat (char 97) end_of_cat)) end_of_cat))
    (cat goal end_of_cat)) (utf8_text (97 ∷ 99 ∷ 98 ∷ []) true)
    0 ≡ (found 1 1 (Some (1, 1) ∷ []) ∷ found 2 3 (Some (2, 3) ∷ []) ∷ found 3 3
    (Some (3, 3) ∷ []) ∷ [])
unfolding matches
judged_2_32 = refl

-- `(?<=(?:(?<=b)((a))+){3})a` of flags `m` on `babaa`
judged_2_33 : matches (cat (cat (lookaround (look false true 0 2)
    (cat (loop (times 3 (Some 3) true) 0 2 (cat (loop (times 1 None true) 0 2
    (capture_group 0 [] (cat (capture_group 1 [] (cat (char 97) end_of_cat)) end_of_cat)))
    (cat (lookaround (look false true 0 0) (cat (char 98) end_of_cat)) end_of_cat))) end_of_cat))
    (cat (char 97) end_of_cat)) (cat goal end_of_cat)) (utf8_text (98 ∷ 97 ∷ 98 ∷ 97 ∷ 97 ∷ []) false)
    0 ≡ []
unfolding matches
judged_2_33 = refl

-- `(.|(?!\1a)\1){2,3}?b` of flags `i` on `ababc`
judged_2_34 : matches (cat (cat (loop (times 2 (Some 3) false) 0 1
    (capture_group 0 [] (alt (cat match_any_except_line_terminator end_of_cat)
    (cat (lookaround (look true false 1 1) (cat (back_ref 1 folded) (cat (char_set (65 ∷ 97 ∷ [])) end_of_cat)))
    (cat (back_ref 1 folded) end_of_cat))))) (cat (char_set (66 ∷ 98 ∷ [])) end_of_cat)) (cat goal end_of_cat))
    (utf8_text (97 ∷ 98 ∷ 97 ∷ 98 ∷ 99 ∷ []) false) 0 ≡ (found 0 4 (Some (2, 3) ∷ []) ∷ [])
unfolding matches
judged_2_34 = refl

-- `(?<=(?:b){2})` on `b`
judged_2_35 : matches (cat (cat (lookaround (look false true 0 0)
    (cat (loop (times 2 (Some 2) true) 0 0 (cat (char 98) end_of_cat)) end_of_cat)) end_of_cat) (cat goal end_of_cat))
    (utf8_text (98 ∷ []) false) 0 ≡ []
unfolding matches
judged_2_35 = refl

-- `b?((?:\1|b)a|\1.)+c` on `caa`
judged_2_36 : matches (cat (cat (loop_1_char_body (times 0 (Some 1) true) (char 98))
    (cat (loop (times 1 None true) 0 1 (capture_group 0 []
    (alt (cat (alt (cat (back_ref 1 exact) end_of_cat) (cat (char 98) end_of_cat)) (cat (char 97) end_of_cat))
    (cat (back_ref 1 exact) (cat match_any_except_line_terminator end_of_cat))))) (cat (char 99) end_of_cat)))
    (cat goal end_of_cat)) (utf8_text (99 ∷ 97 ∷ 97 ∷ []) false) 0 ≡ []
unfolding matches
judged_2_36 = refl

-- `(\1|a*).b` of flags `m` on `a`
judged_2_37 : matches (cat (cat (capture_group 0 []
    (alt (cat (back_ref 1 exact) end_of_cat) (cat (loop_1_char_body (times 0 None true) (char 97)) end_of_cat)))
    (cat match_any_except_line_terminator (cat (char 98) end_of_cat))) (cat goal end_of_cat))
    (utf8_text (97 ∷ []) false) 0 ≡ []
unfolding matches
judged_2_37 = refl

-- `(?<=((?<=b)a*?){2,}?).b` of flags `u` on `babaabac`
judged_2_38 : matches (cat (cat (lookaround (look false true 0 1)
    (cat (loop (times 2 None false) 0 1 (capture_group 0 []
    (cat (loop_1_char_body (times 0 None false) (char 97))
    (cat (lookaround (look false true 1 1) (cat (char 98) end_of_cat)) end_of_cat)))) end_of_cat))
    (cat match_any_except_line_terminator (cat (char 98) end_of_cat))) (cat goal end_of_cat))
    (utf8_text (98 ∷ 97 ∷ 98 ∷ 97 ∷ 97 ∷ 98 ∷ 97 ∷ 99 ∷ []) true)
    0 ≡ (found 1 3 (Some (1, 1) ∷ []) ∷ found 4 6 (Some (3, 3) ∷ []) ∷ [])
unfolding matches
judged_2_38 = refl

-- `((?:\1|b)a|a)a` of flags `m` on `ab`
judged_2_39 : matches (cat (cat (capture_group 0 []
    (alt (cat (alt (cat (back_ref 1 exact) end_of_cat) (cat (char 98) end_of_cat)) (cat (char 97) end_of_cat))
    (cat (char 97) end_of_cat))) (cat (char 97) end_of_cat)) (cat goal end_of_cat)) (utf8_text (97 ∷ 98 ∷ []) false)
    0 ≡ []
unfolding matches
judged_2_39 = refl

-- `(?:(?:b){2}(?:aab)*?){2,}\b` on `acaaaac`
judged_2_40 : matches (cat (cat (loop (times 2 None true) 0 0
    (cat (loop (times 2 (Some 2) true) 0 0 (cat (char 98) end_of_cat))
    (cat (loop (times 0 None false) 0 0 (cat (char 97) (cat (char 97) (cat (char 98) end_of_cat)))) end_of_cat)))
    (cat (word_boundary false false) end_of_cat)) (cat goal end_of_cat))
    (utf8_text (97 ∷ 99 ∷ 97 ∷ 97 ∷ 97 ∷ 97 ∷ 99 ∷ []) false) 0 ≡ []
unfolding matches
judged_2_40 = refl

-- `((?=\1)(?!\1a)|(?!\1a)|b){3}a` of flags `u` on `c`
judged_2_41 : matches (cat (cat (loop (times 3 (Some 3) true) 0 1
    (capture_group 0 [] (alt (cat (lookaround (look false false 1 1) (cat (back_ref 1 exact) end_of_cat))
    (cat (lookaround (look true false 1 1) (cat (back_ref 1 exact) (cat (char 97) end_of_cat))) end_of_cat))
    (alt (cat (lookaround (look true false 1 1) (cat (back_ref 1 exact) (cat (char 97) end_of_cat))) end_of_cat)
    (cat (char 98) end_of_cat))))) (cat (char 97) end_of_cat)) (cat goal end_of_cat))
    (utf8_text (99 ∷ []) true) 0 ≡ []
unfolding matches
judged_2_41 = refl

-- `((?!\1a)\1|a*(?:\1|b)|a)+` on `ccbaab`
judged_2_42 : matches (cat (cat (loop (times 1 None true) 0 1
    (capture_group 0 [] (alt (cat (lookaround (look true false 1 1) (cat (back_ref 1 exact) (cat (char 97) end_of_cat)))
    (cat (back_ref 1 exact) end_of_cat)) (alt (cat (loop_1_char_body (times 0 None true) (char 97))
    (cat (alt (cat (back_ref 1 exact) end_of_cat) (cat (char 98) end_of_cat)) end_of_cat))
    (cat (char 97) end_of_cat))))) end_of_cat) (cat goal end_of_cat))
    (utf8_text (99 ∷ 99 ∷ 98 ∷ 97 ∷ 97 ∷ 98 ∷ []) false)
    0 ≡ (found 0 0 (Some (0, 0) ∷ []) ∷ found 1 1 (Some (1, 1) ∷ []) ∷ found 2 6
    (Some (5, 6) ∷ []) ∷ found 6 6 (Some (6, 6) ∷ []) ∷ [])
unfolding matches
judged_2_42 = refl

-- `(?=(?:(?:a?ab){1,2}(a+)*?){2,})` of flags `m` on `abaaabaa`
judged_2_43 : matches (cat (cat (lookaround (look false false 0 1)
    (cat (loop (times 2 None true) 0 1 (cat (loop (times 1 (Some 2) true) 0 0
    (cat (loop_1_char_body (times 0 (Some 1) true) (char 97)) (cat (char 97) (cat (char 98) end_of_cat))))
    (cat (loop (times 0 None false) 0 1 (capture_group 0 []
    (cat (loop_1_char_body (times 1 None true) (char 97)) end_of_cat))) end_of_cat))) end_of_cat))
    end_of_cat) (cat goal end_of_cat)) (utf8_text (97 ∷ 98 ∷ 97 ∷ 97 ∷ 97 ∷ 98 ∷ 97 ∷ 97 ∷ []) false)
    0 ≡ (found 0 0 (None ∷ []) ∷ [])
unfolding matches
judged_2_43 = refl

-- `(a|(?!\1a)a?|a?)` of flags `u` on `baaacabc`
judged_2_44 : matches (cat (cat (capture_group 0 []
    (alt (cat (char 97) end_of_cat) (alt (cat (lookaround (look true false 1 1)
    (cat (back_ref 1 exact) (cat (char 97) end_of_cat)))
    (cat (loop_1_char_body (times 0 (Some 1) true) (char 97)) end_of_cat))
    (cat (loop_1_char_body (times 0 (Some 1) true) (char 97)) end_of_cat)))) end_of_cat)
    (cat goal end_of_cat)) (utf8_text (98 ∷ 97 ∷ 97 ∷ 97 ∷ 99 ∷ 97 ∷ 98 ∷ 99 ∷ []) true)
    0 ≡ (found 0 0 (Some (0, 0) ∷ []) ∷ found 1 2 (Some (1, 2) ∷ []) ∷ found 2 3
    (Some (2, 3) ∷ []) ∷ found 3 4 (Some (3, 4) ∷ []) ∷ found 4 4 (Some (4, 4) ∷ []) ∷ found 5 6
    (Some (5, 6) ∷ []) ∷ found 6 6 (Some (6, 6) ∷ []) ∷ found 7 7 (Some (7, 7) ∷ []) ∷ found
    8 8 (Some (8, 8) ∷ []) ∷ [])
unfolding matches
judged_2_44 = refl

-- `(?:b*)+` on `aaaacca`
judged_2_45 : matches (cat (cat (loop (times 1 None true) 0 0
    (cat (loop_1_char_body (times 0 None true) (char 98)) end_of_cat)) end_of_cat) (cat goal end_of_cat))
    (utf8_text (97 ∷ 97 ∷ 97 ∷ 97 ∷ 99 ∷ 99 ∷ 97 ∷ []) false)
    0 ≡ (found 0 0 [] ∷ found 1 1 [] ∷ found 2 2 [] ∷ found 3 3 [] ∷ found 4 4 [] ∷ found 5 5 [] ∷ found 6 6
    [] ∷ found 7 7 [] ∷ [])
unfolding matches
judged_2_45 = refl

-- `(b|aa?|a)` of flags `u` on `aaa`
judged_2_46 : matches (cat (cat (capture_group 0 []
    (alt (cat (char 98) end_of_cat) (alt (cat (char 97)
    (cat (loop_1_char_body (times 0 (Some 1) true) (char 97)) end_of_cat)) (cat (char 97) end_of_cat)))) end_of_cat)
    (cat goal end_of_cat)) (utf8_text (97 ∷ 97 ∷ 97 ∷ []) true)
    0 ≡ (found 0 2 (Some (0, 2) ∷ []) ∷ found 2 3 (Some (2, 3) ∷ []) ∷ [])
unfolding matches
judged_2_46 = refl

-- `(?:(?:(?<=b)(?=a)|(a|ab)){2})*?a` of flags `m` on `abcbbcaa`
judged_2_47 : matches (cat (cat (loop (times 0 None false) 0 1
    (cat (loop (times 2 (Some 2) true) 0 1 (alt (cat (lookaround (look false true 0 0) (cat (char 98) end_of_cat))
    (cat (lookaround (look false false 0 0) (cat (char 97) end_of_cat)) end_of_cat))
    (cat (capture_group 0 [] (alt (cat (char 97) end_of_cat) (cat (char 97) (cat (char 98) end_of_cat))))
    end_of_cat))) end_of_cat)) (cat (char 97) end_of_cat)) (cat goal end_of_cat))
    (utf8_text (97 ∷ 98 ∷ 99 ∷ 98 ∷ 98 ∷ 99 ∷ 97 ∷ 97 ∷ []) false)
    0 ≡ (found 0 1 (None ∷ []) ∷ found 6 7 (None ∷ []) ∷ found 7 8 (None ∷ []) ∷ [])
unfolding matches
judged_2_47 = refl

-- `.*?(?=(?:((?:a|)){2,3}?)*)c` of flags `m` on `bbbbb`
judged_2_48 : matches (cat (cat (loop_1_char_body (times 0 None false) match_any_except_line_terminator)
    (cat (lookaround (look false false 0 1) (cat (loop (times 0 None true) 0 1
    (cat (loop (times 2 (Some 3) false) 0 1 (capture_group 0 []
    (cat (alt (cat (char 97) end_of_cat) end_of_cat) end_of_cat))) end_of_cat)) end_of_cat))
    (cat (char 99) end_of_cat))) (cat goal end_of_cat)) (utf8_text (98 ∷ 98 ∷ 98 ∷ 98 ∷ 98 ∷ []) false)
    0 ≡ []
unfolding matches
judged_2_48 = refl

-- `(?<=((?=\1)|a?\1|(?=\1)(?=\1)){1,2})c` of flags `u` on `bbaa`
judged_2_49 : matches (cat (cat (lookaround (look false true 0 1)
    (cat (loop (times 1 (Some 2) true) 0 1 (capture_group 0 []
    (alt (cat (lookaround (look false false 1 1) (cat (back_ref 1 exact) end_of_cat)) end_of_cat)
    (alt (cat (back_ref 1 exact) (cat (loop_1_char_body (times 0 (Some 1) true) (char 97)) end_of_cat))
    (cat (lookaround (look false false 1 1) (cat (back_ref 1 exact) end_of_cat))
    (cat (lookaround (look false false 1 1) (cat (back_ref 1 exact) end_of_cat)) end_of_cat))))))
    end_of_cat)) (cat (char 99) end_of_cat)) (cat goal end_of_cat))
    (utf8_text (98 ∷ 98 ∷ 97 ∷ 97 ∷ []) true) 0 ≡ []
unfolding matches
judged_2_49 = refl

-- `b?(?:b*(?:(?:(?<=b)(?:a|)){0,2}?)*){2,3}\b` on `b`
judged_2_50 : matches (cat (cat (loop_1_char_body (times 0 (Some 1) true) (char 98))
    (cat (loop (times 2 (Some 3) true) 0 0 (cat (loop_1_char_body (times 0 None true) (char 98))
    (cat (loop (times 0 None true) 0 0 (cat (loop (times 0 (Some 2) false) 0 0
    (cat (lookaround (look false true 0 0) (cat (char 98) end_of_cat))
    (cat (alt (cat (char 97) end_of_cat) end_of_cat) end_of_cat))) end_of_cat)) end_of_cat)))
    (cat (word_boundary false false) end_of_cat))) (cat goal end_of_cat)) (utf8_text (98 ∷ []) false)
    0 ≡ (found 0 1 [] ∷ found 1 1 [] ∷ [])
unfolding matches
judged_2_50 = refl

-- `(aa){2,3}c` of flags `m` on `abaaa`
judged_2_51 : matches (cat (cat (loop (times 2 (Some 3) true) 0 1
    (capture_group 0 [] (cat (char 97) (cat (char 97) end_of_cat)))) (cat (char 99) end_of_cat)) (cat goal end_of_cat))
    (utf8_text (97 ∷ 98 ∷ 97 ∷ 97 ∷ 97 ∷ []) false) 0 ≡ []
unfolding matches
judged_2_51 = refl

-- `b?(?:((?:|b)\b|a)?(?:(b)(?:|b)){0,2}?)+(?!a)` on `bbaacbaa`
judged_2_52 : matches (cat (cat (loop_1_char_body (times 0 (Some 1) true) (char 98))
    (cat (loop (times 1 None true) 0 2 (cat (loop (times 0 (Some 1) true) 0 1
    (capture_group 0 [] (alt (cat (alt end_of_cat (cat (char 98) end_of_cat))
    (cat (word_boundary false false) end_of_cat)) (cat (char 97) end_of_cat))))
    (cat (loop (times 0 (Some 2) false) 1 2
    (cat (capture_group 1 [] (cat (char 98) end_of_cat))
    (cat (alt end_of_cat (cat (char 98) end_of_cat)) end_of_cat))) end_of_cat)))
    (cat (lookaround (look true false 2 2) (cat (char 97) end_of_cat)) end_of_cat)))
    (cat goal end_of_cat)) (utf8_text (98 ∷ 98 ∷ 97 ∷ 97 ∷ 99 ∷ 98 ∷ 97 ∷ 97 ∷ []) false)
    0 ≡ (found 0 4 (Some (3, 4) ∷ None ∷ []) ∷ found 4 4 (None ∷ None ∷ []) ∷ found 5 8
    (Some (7, 8) ∷ None ∷ []) ∷ found 8 8 (None ∷ None ∷ []) ∷ [])
unfolding matches
judged_2_52 = refl

-- `(b((?:a?\b){3})+){0,2}?c` on `ccaaaa`
judged_2_53 : matches (cat (cat (loop (times 0 (Some 2) false) 0 2
    (capture_group 0 [] (cat (char 98) (cat (loop (times 1 None true) 1 2
    (capture_group 1 [] (cat (loop (times 3 (Some 3) true) 2 2
    (cat (loop_1_char_body (times 0 (Some 1) true) (char 97)) (cat (word_boundary false false) end_of_cat)))
    end_of_cat))) end_of_cat)))) (cat (char 99) end_of_cat)) (cat goal end_of_cat))
    (utf8_text (99 ∷ 99 ∷ 97 ∷ 97 ∷ 97 ∷ 97 ∷ []) false)
    0 ≡ (found 0 1 (None ∷ None ∷ []) ∷ found 1 2 (None ∷ None ∷ []) ∷ [])
unfolding matches
judged_2_53 = refl

-- `(?:a+){1,2}` on `acbabba`
judged_2_54 : matches (cat (cat (loop (times 1 (Some 2) true) 0 0
    (cat (loop_1_char_body (times 1 None true) (char 97)) end_of_cat)) end_of_cat) (cat goal end_of_cat))
    (utf8_text (97 ∷ 99 ∷ 98 ∷ 97 ∷ 98 ∷ 98 ∷ 97 ∷ []) false) 0 ≡ (found 0 1 [] ∷ found 3 4 [] ∷ found 6 7 [] ∷ [])
unfolding matches
judged_2_54 = refl

-- `(?=([ab]|a){2,3})(?!a)` of flags `m` on `a`
judged_2_55 : matches (cat (cat (lookaround (look false false 0 1)
    (cat (loop (times 2 (Some 3) true) 0 1 (capture_group 0 []
    (alt (cat (bracket (in_brackets false ((97, 98) ∷ []))) end_of_cat) (cat (char 97) end_of_cat)))) end_of_cat))
    (cat (lookaround (look true false 1 1) (cat (char 97) end_of_cat)) end_of_cat)) (cat goal end_of_cat))
    (utf8_text (97 ∷ []) false) 0 ≡ []
unfolding matches
judged_2_55 = refl

-- `(?<=(a*a*|\1\1|b\1)*)a` of flags `u` on `aaaabbc`
judged_2_56 : matches (cat (cat (lookaround (look false true 0 1)
    (cat (loop (times 0 None true) 0 1 (capture_group 0 []
    (alt (cat (loop_1_char_body (times 0 None true) (char 97))
    (cat (loop_1_char_body (times 0 None true) (char 97)) end_of_cat))
    (alt (cat (back_ref 1 exact) (cat (back_ref 1 exact) end_of_cat))
    (cat (back_ref 1 exact) (cat (char 98) end_of_cat)))))) end_of_cat)) (cat (char 97) end_of_cat))
    (cat goal end_of_cat)) (utf8_text (97 ∷ 97 ∷ 97 ∷ 97 ∷ 98 ∷ 98 ∷ 99 ∷ []) true)
    0 ≡ (found 0 1 (None ∷ []) ∷ found 1 2 (Some (0, 1) ∷ []) ∷ found 2 3
    (Some (0, 2) ∷ []) ∷ found 3 4 (Some (0, 3) ∷ []) ∷ [])
unfolding matches
judged_2_56 = refl

-- `.*?(a|\1).b` of flags `m` on `a`
judged_2_57 : matches (cat (cat (loop_1_char_body (times 0 None false) match_any_except_line_terminator)
    (cat (capture_group 0 [] (alt (cat (char 97) end_of_cat) (cat (back_ref 1 exact) end_of_cat)))
    (cat match_any_except_line_terminator (cat (char 98) end_of_cat)))) (cat goal end_of_cat))
    (utf8_text (97 ∷ []) false) 0 ≡ []
unfolding matches
judged_2_57 = refl

-- `(b|a?)+?$` of flags `m` on `c`
judged_2_58 : matches (cat (cat (loop (times 1 None false) 0 1
    (capture_group 0 [] (alt (cat (char 98) end_of_cat)
    (cat (loop_1_char_body (times 0 (Some 1) true) (char 97)) end_of_cat))))
    (cat (anchor end_of_line true) end_of_cat)) (cat goal end_of_cat)) (utf8_text (99 ∷ []) false)
    0 ≡ (found 1 1 (Some (1, 1) ∷ []) ∷ [])
unfolding matches
judged_2_58 = refl

-- `(?:(?:(?:[ab]){2}a?)*?a){3}(?!a)` of flags `u` on `baaa`
judged_2_59 : matches (cat (cat (loop (times 3 (Some 3) true) 0 0
    (cat (loop (times 0 None false) 0 0 (cat (loop (times 2 (Some 2) true) 0 0
    (cat (bracket (in_brackets false ((97, 98) ∷ []))) end_of_cat))
    (cat (loop_1_char_body (times 0 (Some 1) true) (char 97)) end_of_cat))) (cat (char 97) end_of_cat)))
    (cat (lookaround (look true false 0 0) (cat (char 97) end_of_cat)) end_of_cat)) (cat goal end_of_cat))
    (utf8_text (98 ∷ 97 ∷ 97 ∷ 97 ∷ []) true) 0 ≡ (found 1 4 [] ∷ [])
unfolding matches
judged_2_59 = refl
