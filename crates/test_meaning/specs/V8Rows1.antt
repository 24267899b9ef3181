-- Patterns on texts, part 1, with the results of JavaScript's V8: the same flags, and its indices as
-- byte offsets. The trees are those of the patterns, optimized.
use Rattle.std.specs.Prelude.{◌≡◌, [], ◌∷◌, Some, None, refl, true, false}
use Rattle.regex_meaning.specs.Tree.{goal, char, char_set, cat, end_of_cat, alt, bracket, match_any_except_line_terminator, anchor, start_of_line, end_of_line, word_boundary, capture_group, back_ref}
use Rattle.regex_meaning.specs.Tree.{exact, folded, lookaround, loop, loop_1_char_body}
use Rattle.regex_meaning.specs.Text.{utf8_text}
use Rattle.test_meaning.specs.Computing.{found, matches, times, in_brackets, look}

-- `(?:a|a)*` on `aaaaaaaaaaaa`
judged_1_01 : matches (cat (cat (loop (times 0 None true) 0 0
    (alt (cat (char 97) end_of_cat) (cat (char 97) end_of_cat))) end_of_cat) (cat goal end_of_cat))
    (utf8_text (97 ∷ 97 ∷ 97 ∷ 97 ∷ 97 ∷ 97 ∷ 97 ∷ 97 ∷ 97 ∷ 97 ∷ 97 ∷ 97 ∷ []) false)
    0 ≡ (found 0 12 [] ∷ found 12 12 [] ∷ [])
unfolding matches
judged_1_01 = refl

-- `a{,2}` on `a{,2}`
judged_1_02 : matches (cat (cat (char 97) (cat (char 123) (cat (char 44) (cat (char 50) (cat (char 125) end_of_cat)))))
    (cat goal end_of_cat)) (utf8_text (97 ∷ 123 ∷ 44 ∷ 50 ∷ 125 ∷ []) false) 0 ≡ (found 0 5 [] ∷ [])
unfolding matches
judged_1_02 = refl

-- `k` of flags `iu` on `\u{212A}kK`
judged_1_03 : matches (cat (cat (char_set (75 ∷ 107 ∷ 8490 ∷ [])) end_of_cat) (cat goal end_of_cat))
    (utf8_text (226 ∷ 132 ∷ 170 ∷ 107 ∷ 75 ∷ []) true) 0 ≡ (found 0 3 [] ∷ found 3 4 [] ∷ found 4 5 [] ∷ [])
unfolding matches
judged_1_03 = refl

-- `a{3}` on `aaaa`
judged_1_04 : matches (cat (cat (loop_1_char_body (times 3 (Some 3) true) (char 97)) end_of_cat) (cat goal end_of_cat))
    (utf8_text (97 ∷ 97 ∷ 97 ∷ 97 ∷ []) false) 0 ≡ (found 0 3 [] ∷ [])
unfolding matches
judged_1_04 = refl

-- `a+?.` on `aab`
judged_1_05 : matches (cat (cat (loop_1_char_body (times 1 None false) (char 97))
    (cat match_any_except_line_terminator end_of_cat)) (cat goal end_of_cat)) (utf8_text (97 ∷ 97 ∷ 98 ∷ []) false)
    0 ≡ (found 0 2 [] ∷ [])
unfolding matches
judged_1_05 = refl

-- `a\b|` on `ba ab`
judged_1_06 : matches (cat (alt (cat (char 97) (cat (word_boundary false false) end_of_cat)) end_of_cat)
    (cat goal end_of_cat)) (utf8_text (98 ∷ 97 ∷ 32 ∷ 97 ∷ 98 ∷ []) false)
    0 ≡ (found 0 0 [] ∷ found 1 2 [] ∷ found 2 2 [] ∷ found 3 3 [] ∷ found 4 4 [] ∷ found 5 5 [] ∷ [])
unfolding matches
judged_1_06 = refl

-- `ba^` on `aab`
judged_1_07 : matches (cat (cat (char 98) (cat (char 97) (cat (anchor start_of_line false) end_of_cat)))
    (cat goal end_of_cat)) (utf8_text (97 ∷ 97 ∷ 98 ∷ []) false) 0 ≡ []
unfolding matches
judged_1_07 = refl

-- `b\b$` on `ba ab`
judged_1_08 : matches (cat (cat (char 98) (cat (word_boundary false false) (cat (anchor end_of_line false) end_of_cat)))
    (cat goal end_of_cat)) (utf8_text (98 ∷ 97 ∷ 32 ∷ 97 ∷ 98 ∷ []) false) 0 ≡ (found 4 5 [] ∷ [])
unfolding matches
judged_1_08 = refl

-- `.|[ab]` on `aab`
judged_1_09 : matches (cat (alt (cat match_any_except_line_terminator end_of_cat)
    (cat (bracket (in_brackets false ((97, 98) ∷ []))) end_of_cat)) (cat goal end_of_cat))
    (utf8_text (97 ∷ 97 ∷ 98 ∷ []) false) 0 ≡ (found 0 1 [] ∷ found 1 2 [] ∷ found 2 3 [] ∷ [])
unfolding matches
judged_1_09 = refl

-- `.+?\b` on `aab`
judged_1_10 : matches (cat (cat (loop_1_char_body (times 1 None false) match_any_except_line_terminator)
    (cat (word_boundary false false) end_of_cat)) (cat goal end_of_cat)) (utf8_text (97 ∷ 97 ∷ 98 ∷ []) false)
    0 ≡ (found 0 3 [] ∷ [])
unfolding matches
judged_1_10 = refl

-- `|.*` on `aab`
judged_1_11 : matches (cat (alt end_of_cat (cat (loop_1_char_body (times 0 None true) match_any_except_line_terminator)
    end_of_cat)) (cat goal end_of_cat)) (utf8_text (97 ∷ 97 ∷ 98 ∷ []) false)
    0 ≡ (found 0 0 [] ∷ found 1 1 [] ∷ found 2 2 [] ∷ found 3 3 [] ∷ [])
unfolding matches
judged_1_11 = refl

-- `|^|` on `ba ab`
judged_1_12 : matches (cat (alt end_of_cat (alt (cat (anchor start_of_line false) end_of_cat) end_of_cat))
    (cat goal end_of_cat)) (utf8_text (98 ∷ 97 ∷ 32 ∷ 97 ∷ 98 ∷ []) false)
    0 ≡ (found 0 0 [] ∷ found 1 1 [] ∷ found 2 2 [] ∷ found 3 3 [] ∷ found 4 4 [] ∷ found 5 5 [] ∷ [])
unfolding matches
judged_1_12 = refl

-- `()[ab]` on `ba ab`
judged_1_13 : matches (cat (cat (capture_group 0 [] end_of_cat)
    (cat (bracket (in_brackets false ((97, 98) ∷ []))) end_of_cat)) (cat goal end_of_cat))
    (utf8_text (98 ∷ 97 ∷ 32 ∷ 97 ∷ 98 ∷ []) false)
    0 ≡ (found 0 1 (Some (0, 0) ∷ []) ∷ found 1 2 (Some (1, 1) ∷ []) ∷ found 3 4 (Some (3, 3) ∷ []) ∷ found 4 5
    (Some (4, 4) ∷ []) ∷ [])
unfolding matches
judged_1_13 = refl

-- `(?:){2}` on `ba ab`
judged_1_14 : matches (cat (cat (loop (times 2 (Some 2) true) 0 0 end_of_cat) end_of_cat) (cat goal end_of_cat))
    (utf8_text (98 ∷ 97 ∷ 32 ∷ 97 ∷ 98 ∷ []) false)
    0 ≡ (found 0 0 [] ∷ found 1 1 [] ∷ found 2 2 [] ∷ found 3 3 [] ∷ found 4 4 [] ∷ found 5 5 [] ∷ [])
unfolding matches
judged_1_14 = refl

-- `(?<=a)` on `aab`
judged_1_15 : matches (cat (cat (lookaround (look false true 0 0) (cat (char 97) end_of_cat)) end_of_cat)
    (cat goal end_of_cat)) (utf8_text (97 ∷ 97 ∷ 98 ∷ []) false) 0 ≡ (found 1 1 [] ∷ found 2 2 [] ∷ [])
unfolding matches
judged_1_15 = refl

-- `(?!)|` on `ba ab`
judged_1_16 : matches (cat (alt (cat (lookaround (look true false 0 0) end_of_cat) end_of_cat) end_of_cat)
    (cat goal end_of_cat)) (utf8_text (98 ∷ 97 ∷ 32 ∷ 97 ∷ 98 ∷ []) false)
    0 ≡ (found 0 0 [] ∷ found 1 1 [] ∷ found 2 2 [] ∷ found 3 3 [] ∷ found 4 4 [] ∷ found 5 5 [] ∷ [])
unfolding matches
judged_1_16 = refl

-- `^a+?` on `ba ab`
judged_1_17 : matches (cat (cat (anchor start_of_line false)
    (cat (loop_1_char_body (times 1 None false) (char 97)) end_of_cat)) (cat goal end_of_cat))
    (utf8_text (98 ∷ 97 ∷ 32 ∷ 97 ∷ 98 ∷ []) false) 0 ≡ []
unfolding matches
judged_1_17 = refl

-- `$aa` on `ba ab`
judged_1_18 : matches (cat (cat (anchor end_of_line false) (cat (char 97) (cat (char 97) end_of_cat)))
    (cat goal end_of_cat)) (utf8_text (98 ∷ 97 ∷ 32 ∷ 97 ∷ 98 ∷ []) false) 0 ≡ []
unfolding matches
judged_1_18 = refl

-- `$[ab]$` on `ba ab`
judged_1_19 : matches (cat (cat (anchor end_of_line false)
    (cat (bracket (in_brackets false ((97, 98) ∷ []))) (cat (anchor end_of_line false) end_of_cat)))
    (cat goal end_of_cat)) (utf8_text (98 ∷ 97 ∷ 32 ∷ 97 ∷ 98 ∷ []) false) 0 ≡ []
unfolding matches
judged_1_19 = refl

-- `\b.+?` on `ba ab`
judged_1_20 : matches (cat (cat (word_boundary false false)
    (cat (loop_1_char_body (times 1 None false) match_any_except_line_terminator) end_of_cat)) (cat goal end_of_cat))
    (utf8_text (98 ∷ 97 ∷ 32 ∷ 97 ∷ 98 ∷ []) false) 0 ≡ (found 0 1 [] ∷ found 2 3 [] ∷ found 3 4 [] ∷ [])
unfolding matches
judged_1_20 = refl

-- `[ab]a` on `aab`
judged_1_21 : matches (cat (cat (bracket (in_brackets false ((97, 98) ∷ []))) (cat (char 97) end_of_cat))
    (cat goal end_of_cat)) (utf8_text (97 ∷ 97 ∷ 98 ∷ []) false) 0 ≡ (found 0 2 [] ∷ [])
unfolding matches
judged_1_21 = refl

-- `[ab].\b` on `aab`
judged_1_22 : matches (cat (cat (bracket (in_brackets false ((97, 98) ∷ [])))
    (cat match_any_except_line_terminator (cat (word_boundary false false) end_of_cat))) (cat goal end_of_cat))
    (utf8_text (97 ∷ 97 ∷ 98 ∷ []) false) 0 ≡ (found 1 3 [] ∷ [])
unfolding matches
judged_1_22 = refl

-- `[ab]{2}^` on `aab`
judged_1_23 : matches (cat (cat (loop_1_char_body (times 2 (Some 2) true) (bracket (in_brackets false ((97, 98) ∷ []))))
    (cat (anchor start_of_line false) end_of_cat)) (cat goal end_of_cat)) (utf8_text (97 ∷ 97 ∷ 98 ∷ []) false) 0 ≡ []
unfolding matches
judged_1_23 = refl

-- `[ab]^[ab]` on `aab`
judged_1_24 : matches (cat (cat (bracket (in_brackets false ((97, 98) ∷ [])))
    (cat (anchor start_of_line false) (cat (bracket (in_brackets false ((97, 98) ∷ []))) end_of_cat)))
    (cat goal end_of_cat)) (utf8_text (97 ∷ 97 ∷ 98 ∷ []) false) 0 ≡ []
unfolding matches
judged_1_24 = refl

-- `((?!)(?:)+?)` on `ab`
judged_1_25 : matches (cat (cat (capture_group 0 []
    (cat (lookaround (look true false 1 1) end_of_cat) (cat (loop (times 1 None false) 1 1 end_of_cat) end_of_cat)))
    end_of_cat) (cat goal end_of_cat)) (utf8_text (97 ∷ 98 ∷ []) false) 0 ≡ []
unfolding matches
judged_1_25 = refl

-- `^\bb?^b?` on `baaaaba`
judged_1_26 : matches (cat (cat (anchor start_of_line false)
    (cat (word_boundary false false) (cat (loop_1_char_body (times 0 (Some 1) true) (char 98))
    (cat (anchor start_of_line false) (cat (loop_1_char_body (times 0 (Some 1) true) (char 98)) end_of_cat)))))
    (cat goal end_of_cat)) (utf8_text (98 ∷ 97 ∷ 97 ∷ 97 ∷ 97 ∷ 98 ∷ 97 ∷ []) false) 0 ≡ (found 0 1 [] ∷ [])
unfolding matches
judged_1_26 = refl

-- `(?:b?a*){2,3}\b|` on `ba`
judged_1_27 : matches (cat (alt (cat (loop (times 2 (Some 3) true) 0 0
    (cat (loop_1_char_body (times 0 (Some 1) true) (char 98))
    (cat (loop_1_char_body (times 0 None true) (char 97)) end_of_cat)))
    (cat (word_boundary false false) end_of_cat)) end_of_cat) (cat goal end_of_cat))
    (utf8_text (98 ∷ 97 ∷ []) false) 0 ≡ (found 0 2 [] ∷ found 2 2 [] ∷ [])
unfolding matches
judged_1_27 = refl

-- `|a?^^|` of flags `u` on `bab`
judged_1_28 : matches (cat (alt end_of_cat (alt (cat (loop_1_char_body (times 0 (Some 1) true) (char 97))
    (cat (anchor start_of_line false) (cat (anchor start_of_line false) end_of_cat))) end_of_cat))
    (cat goal end_of_cat)) (utf8_text (98 ∷ 97 ∷ 98 ∷ []) true)
    0 ≡ (found 0 0 [] ∷ found 1 1 [] ∷ found 2 2 [] ∷ found 3 3 [] ∷ [])
unfolding matches
judged_1_28 = refl

-- `a*a.(?!)` of flags `u` on `a`
judged_1_29 : matches (cat (cat (loop_1_char_body (times 0 None true) (char 97))
    (cat (char 97) (cat match_any_except_line_terminator
    (cat (lookaround (look true false 0 0) end_of_cat) end_of_cat)))) (cat goal end_of_cat))
    (utf8_text (97 ∷ []) true) 0 ≡ []
unfolding matches
judged_1_29 = refl

-- `^b|[ab]` of flags `i` on ``
judged_1_30 : matches (cat (alt (cat (anchor start_of_line false) (cat (char_set (66 ∷ 98 ∷ [])) end_of_cat))
    (cat (bracket (in_brackets false ((65, 66) ∷ (97, 98) ∷ []))) end_of_cat)) (cat goal end_of_cat))
    (utf8_text [] false) 0 ≡ []
unfolding matches
judged_1_30 = refl

-- `a|$b?()` of flags `m` on `aa\u{A}a\u{A}aa`
judged_1_31 : matches (cat (alt (cat (char 97) end_of_cat)
    (cat (anchor end_of_line true) (cat (loop_1_char_body (times 0 (Some 1) true) (char 98))
    (cat (capture_group 0 [] end_of_cat) end_of_cat)))) (cat goal end_of_cat))
    (utf8_text (97 ∷ 97 ∷ 10 ∷ 97 ∷ 10 ∷ 97 ∷ 97 ∷ []) false)
    0 ≡ (found 0 1 (None ∷ []) ∷ found 1 2 (None ∷ []) ∷ found 2 2 (Some (2, 2) ∷ []) ∷ found 3 4
    (None ∷ []) ∷ found 4 4 (Some (4, 4) ∷ []) ∷ found 5 6 (None ∷ []) ∷ found 6 7 (None ∷ []) ∷ found 7
    7 (Some (7, 7) ∷ []) ∷ [])
unfolding matches
judged_1_31 = refl

-- `|a?(?:)(a*)` on `b`
judged_1_32 : matches (cat (alt end_of_cat (cat (loop_1_char_body (times 0 (Some 1) true) (char 97))
    (cat end_of_cat (cat (capture_group 0 [] (cat (loop_1_char_body (times 0 None true) (char 97)) end_of_cat))
    end_of_cat)))) (cat goal end_of_cat)) (utf8_text (98 ∷ []) false)
    0 ≡ (found 0 0 (None ∷ []) ∷ found 1 1 (None ∷ []) ∷ [])
unfolding matches
judged_1_32 = refl

-- `(?=)b?b?b*?b` of flags `m` on `bba\u{A}b`
judged_1_33 : matches (cat (cat (lookaround (look false false 0 0) end_of_cat)
    (cat (loop_1_char_body (times 0 (Some 1) true) (char 98))
    (cat (loop_1_char_body (times 0 (Some 1) true) (char 98))
    (cat (loop_1_char_body (times 0 None false) (char 98)) (cat (char 98) end_of_cat))))) (cat goal end_of_cat))
    (utf8_text (98 ∷ 98 ∷ 97 ∷ 10 ∷ 98 ∷ []) false) 0 ≡ (found 0 2 [] ∷ found 4 5 [] ∷ [])
unfolding matches
judged_1_33 = refl

-- `(a(?!))+` of flags `u` on `abaaa`
judged_1_34 : matches (cat (cat (loop (times 1 None true) 0 1
    (capture_group 0 [] (cat (char 97) (cat (lookaround (look true false 1 1) end_of_cat) end_of_cat)))) end_of_cat)
    (cat goal end_of_cat)) (utf8_text (97 ∷ 98 ∷ 97 ∷ 97 ∷ 97 ∷ []) true) 0 ≡ []
unfolding matches
judged_1_34 = refl

-- `$(?<=|)b*?` of flags `m` on `a\u{A}b`
judged_1_35 : matches (cat (cat (anchor end_of_line true)
    (cat (lookaround (look false true 0 0) (alt end_of_cat end_of_cat))
    (cat (loop_1_char_body (times 0 None false) (char 98)) end_of_cat))) (cat goal end_of_cat))
    (utf8_text (97 ∷ 10 ∷ 98 ∷ []) false) 0 ≡ (found 1 1 [] ∷ found 3 3 [] ∷ [])
unfolding matches
judged_1_35 = refl

-- `[ab](?!(?<=b?()*?))` on `ababa`
judged_1_36 : matches (cat (cat (bracket (in_brackets false ((97, 98) ∷ [])))
    (cat (lookaround (look true false 0 1) (cat (lookaround (look false true 0 1)
    (cat (loop (times 0 None false) 0 1 (capture_group 0 [] end_of_cat))
    (cat (loop_1_char_body (times 0 (Some 1) true) (char 98)) end_of_cat))) end_of_cat)) end_of_cat))
    (cat goal end_of_cat)) (utf8_text (97 ∷ 98 ∷ 97 ∷ 98 ∷ 97 ∷ []) false) 0 ≡ []
unfolding matches
judged_1_36 = refl

-- `.(|bb)` on `baaaba`
judged_1_37 : matches (cat (cat match_any_except_line_terminator
    (cat (capture_group 0 [] (alt end_of_cat (cat (char 98) (cat (char 98) end_of_cat)))) end_of_cat))
    (cat goal end_of_cat)) (utf8_text (98 ∷ 97 ∷ 97 ∷ 97 ∷ 98 ∷ 97 ∷ []) false)
    0 ≡ (found 0 1 (Some (1, 1) ∷ []) ∷ found 1 2 (Some (2, 2) ∷ []) ∷ found 2 3 (Some (3, 3) ∷ []) ∷ found 3 4
    (Some (4, 4) ∷ []) ∷ found 4 5 (Some (5, 5) ∷ []) ∷ found 5 6 (Some (6, 6) ∷ []) ∷ [])
unfolding matches
judged_1_37 = refl

-- `^(?=)|b?` of flags `i` on `baaaaa`
judged_1_38 : matches (cat (alt (cat (anchor start_of_line false)
    (cat (lookaround (look false false 0 0) end_of_cat) end_of_cat))
    (cat (loop_1_char_body (times 0 (Some 1) true) (char_set (66 ∷ 98 ∷ []))) end_of_cat)) (cat goal end_of_cat))
    (utf8_text (98 ∷ 97 ∷ 97 ∷ 97 ∷ 97 ∷ 97 ∷ []) false)
    0 ≡ (found 0 0 [] ∷ found 1 1 [] ∷ found 2 2 [] ∷ found 3 3 [] ∷ found 4 4 [] ∷ found 5 5 [] ∷ found 6 6
    [] ∷ [])
unfolding matches
judged_1_38 = refl

-- `ab*?b*?a(?=)[ab]` of flags `i` on `bbbaab`
judged_1_39 : matches (cat (cat (char_set (65 ∷ 97 ∷ []))
    (cat (loop_1_char_body (times 0 None false) (char_set (66 ∷ 98 ∷ [])))
    (cat (loop_1_char_body (times 0 None false) (char_set (66 ∷ 98 ∷ [])))
    (cat (char_set (65 ∷ 97 ∷ [])) (cat (lookaround (look false false 0 0) end_of_cat)
    (cat (bracket (in_brackets false ((65, 66) ∷ (97, 98) ∷ []))) end_of_cat)))))) (cat goal end_of_cat))
    (utf8_text (98 ∷ 98 ∷ 98 ∷ 97 ∷ 97 ∷ 98 ∷ []) false) 0 ≡ (found 3 6 [] ∷ [])
unfolding matches
judged_1_39 = refl

-- `(?<!|a?)` of flags `i` on `ab`
judged_1_40 : matches (cat (cat (lookaround (look true true 0 0)
    (alt end_of_cat (cat (loop_1_char_body (times 0 (Some 1) true) (char_set (65 ∷ 97 ∷ []))) end_of_cat))) end_of_cat)
    (cat goal end_of_cat)) (utf8_text (97 ∷ 98 ∷ []) false) 0 ≡ []
unfolding matches
judged_1_40 = refl

-- `^$(|)+(?:)` of flags `m` on ``
judged_1_41 : matches (cat (cat (anchor start_of_line true)
    (cat (anchor end_of_line true) (cat (loop (times 1 None true) 0 1 (capture_group 0 [] (alt end_of_cat end_of_cat)))
    (cat end_of_cat end_of_cat)))) (cat goal end_of_cat)) (utf8_text [] false)
    0 ≡ (found 0 0 (Some (0, 0) ∷ []) ∷ [])
unfolding matches
judged_1_41 = refl

-- `.a*\b` of flags `m` on ``
judged_1_42 : matches (cat (cat match_any_except_line_terminator
    (cat (loop_1_char_body (times 0 None true) (char 97)) (cat (word_boundary false false) end_of_cat)))
    (cat goal end_of_cat)) (utf8_text [] false) 0 ≡ []
unfolding matches
judged_1_42 = refl

-- `bb?.(?!(?:^))` of flags `i` on `aa`
judged_1_43 : matches (cat (cat (char_set (66 ∷ 98 ∷ []))
    (cat (loop_1_char_body (times 0 (Some 1) true) (char_set (66 ∷ 98 ∷ [])))
    (cat match_any_except_line_terminator (cat (lookaround (look true false 0 0)
    (cat (cat (anchor start_of_line false) end_of_cat) end_of_cat)) end_of_cat)))) (cat goal end_of_cat))
    (utf8_text (97 ∷ 97 ∷ []) false) 0 ≡ []
unfolding matches
judged_1_43 = refl

-- `a|(b?[ab](?!.))` on `aaabab`
judged_1_44 : matches (cat (alt (cat (char 97) end_of_cat)
    (cat (capture_group 0 [] (cat (loop_1_char_body (times 0 (Some 1) true) (char 98))
    (cat (bracket (in_brackets false ((97, 98) ∷ [])))
    (cat (lookaround (look true false 1 1) (cat match_any_except_line_terminator end_of_cat)) end_of_cat))))
    end_of_cat)) (cat goal end_of_cat)) (utf8_text (97 ∷ 97 ∷ 97 ∷ 98 ∷ 97 ∷ 98 ∷ []) false)
    0 ≡ (found 0 1 (None ∷ []) ∷ found 1 2 (None ∷ []) ∷ found 2 3 (None ∷ []) ∷ found 4 5
    (None ∷ []) ∷ found 5 6 (Some (5, 6) ∷ []) ∷ [])
unfolding matches
judged_1_44 = refl

-- `\1|a+?(?:b())?` of flags `i` on `aaaa`
judged_1_45 : matches (cat (alt (cat (back_ref 1 folded) end_of_cat)
    (cat (loop_1_char_body (times 1 None false) (char_set (65 ∷ 97 ∷ [])))
    (cat (loop (times 0 (Some 1) true) 0 1 (cat (char_set (66 ∷ 98 ∷ []))
    (cat (capture_group 0 [] end_of_cat) end_of_cat))) end_of_cat))) (cat goal end_of_cat))
    (utf8_text (97 ∷ 97 ∷ 97 ∷ 97 ∷ []) false)
    0 ≡ (found 0 0 (None ∷ []) ∷ found 1 1 (None ∷ []) ∷ found 2 2 (None ∷ []) ∷ found 3 3
    (None ∷ []) ∷ found 4 4 (None ∷ []) ∷ [])
unfolding matches
judged_1_45 = refl

-- `||(?:.a)` of flags `u` on `aabab`
judged_1_46 : matches (cat (alt end_of_cat (alt end_of_cat
    (cat (cat match_any_except_line_terminator (cat (char 97) end_of_cat)) end_of_cat))) (cat goal end_of_cat))
    (utf8_text (97 ∷ 97 ∷ 98 ∷ 97 ∷ 98 ∷ []) true)
    0 ≡ (found 0 0 [] ∷ found 1 1 [] ∷ found 2 2 [] ∷ found 3 3 [] ∷ found 4 4 [] ∷ found 5 5 [] ∷ [])
unfolding matches
judged_1_46 = refl

-- `(?:\1\1(?:(\1))*)*?` on `aaab`
judged_1_47 : matches (cat (cat (loop (times 0 None false) 0 1
    (cat (back_ref 1 exact) (cat (back_ref 1 exact)
    (cat (loop (times 0 None true) 0 1 (cat (capture_group 0 [] (cat (back_ref 1 exact) end_of_cat)) end_of_cat))
    end_of_cat)))) end_of_cat) (cat goal end_of_cat)) (utf8_text (97 ∷ 97 ∷ 97 ∷ 98 ∷ []) false)
    0 ≡ (found 0 0 (None ∷ []) ∷ found 1 1 (None ∷ []) ∷ found 2 2 (None ∷ []) ∷ found 3 3
    (None ∷ []) ∷ found 4 4 (None ∷ []) ∷ [])
unfolding matches
judged_1_47 = refl

-- `(?:(b))*` on `b`
judged_1_48 : matches (cat (cat (loop (times 0 None true) 0 1
    (cat (capture_group 0 [] (cat (char 98) end_of_cat)) end_of_cat)) end_of_cat) (cat goal end_of_cat))
    (utf8_text (98 ∷ []) false) 0 ≡ (found 0 1 (Some (0, 1) ∷ []) ∷ found 1 1 (None ∷ []) ∷ [])
unfolding matches
judged_1_48 = refl

-- `^(?:a|b)(a)((a))b` on `ab`
judged_1_49 : matches (cat (cat (anchor start_of_line false)
    (cat (alt (cat (char 97) end_of_cat) (cat (char 98) end_of_cat))
    (cat (capture_group 0 [] (cat (char 97) end_of_cat))
    (cat (capture_group 1 [] (cat (capture_group 2 [] (cat (char 97) end_of_cat)) end_of_cat))
    (cat (char 98) end_of_cat))))) (cat goal end_of_cat)) (utf8_text (97 ∷ 98 ∷ []) false) 0 ≡ []
unfolding matches
judged_1_49 = refl

-- `(?:b){3}` on `bcabaaa`
judged_1_50 : matches (cat (cat (loop (times 3 (Some 3) true) 0 0 (cat (char 98) end_of_cat)) end_of_cat)
    (cat goal end_of_cat)) (utf8_text (98 ∷ 99 ∷ 97 ∷ 98 ∷ 97 ∷ 97 ∷ 97 ∷ []) false) 0 ≡ []
unfolding matches
judged_1_50 = refl

-- `((?:\1|(?:a|b)))` on `cabba`
judged_1_51 : matches (cat (cat (capture_group 0 []
    (cat (alt (cat (back_ref 1 exact) end_of_cat) (cat (alt (cat (char 97) end_of_cat) (cat (char 98) end_of_cat))
    end_of_cat)) end_of_cat)) end_of_cat) (cat goal end_of_cat)) (utf8_text (99 ∷ 97 ∷ 98 ∷ 98 ∷ 97 ∷ []) false)
    0 ≡ (found 0 0 (Some (0, 0) ∷ []) ∷ found 1 1 (Some (1, 1) ∷ []) ∷ found 2 2 (Some (2, 2) ∷ []) ∷ found 3 3
    (Some (3, 3) ∷ []) ∷ found 4 4 (Some (4, 4) ∷ []) ∷ found 5 5 (Some (5, 5) ∷ []) ∷ [])
unfolding matches
judged_1_51 = refl

-- `(?:(ba)){2}` on `baabaa`
judged_1_52 : matches (cat (cat (loop (times 2 (Some 2) true) 0 1
    (cat (capture_group 0 [] (cat (char 98) (cat (char 97) end_of_cat))) end_of_cat)) end_of_cat) (cat goal end_of_cat))
    (utf8_text (98 ∷ 97 ∷ 97 ∷ 98 ∷ 97 ∷ 97 ∷ []) false) 0 ≡ []
unfolding matches
judged_1_52 = refl

-- `^(?:b){3}a` on `baca`
judged_1_53 : matches (cat (cat (anchor start_of_line false)
    (cat (loop (times 3 (Some 3) true) 0 0 (cat (char 98) end_of_cat)) (cat (char 97) end_of_cat)))
    (cat goal end_of_cat)) (utf8_text (98 ∷ 97 ∷ 99 ∷ 97 ∷ []) false) 0 ≡ []
unfolding matches
judged_1_53 = refl

-- `b` on `aaaabaa`
judged_1_54 : matches (cat (cat (char 98) end_of_cat) (cat goal end_of_cat))
    (utf8_text (97 ∷ 97 ∷ 97 ∷ 97 ∷ 98 ∷ 97 ∷ 97 ∷ []) false) 0 ≡ (found 4 5 [] ∷ [])
unfolding matches
judged_1_54 = refl

-- `a\b` on `ca`
judged_1_55 : matches (cat (cat (char 97) (cat (word_boundary false false) end_of_cat)) (cat goal end_of_cat))
    (utf8_text (99 ∷ 97 ∷ []) false) 0 ≡ (found 1 2 [] ∷ [])
unfolding matches
judged_1_55 = refl

-- `(?:(?:b|a)|b)(?:(b)){2,}` on `bcabb`
judged_1_56 : matches (cat (cat (alt (cat (alt (cat (char 98) end_of_cat) (cat (char 97) end_of_cat)) end_of_cat)
    (cat (char 98) end_of_cat)) (cat (loop (times 2 None true) 0 1
    (cat (capture_group 0 [] (cat (char 98) end_of_cat)) end_of_cat)) end_of_cat)) (cat goal end_of_cat))
    (utf8_text (98 ∷ 99 ∷ 97 ∷ 98 ∷ 98 ∷ []) false) 0 ≡ (found 2 5 (Some (4, 5) ∷ []) ∷ [])
unfolding matches
judged_1_56 = refl

-- `^a(?:(?!a)|aa)` on `aca`
judged_1_57 : matches (cat (cat (anchor start_of_line false)
    (cat (char 97) (cat (alt (cat (lookaround (look true false 0 0) (cat (char 97) end_of_cat)) end_of_cat)
    (cat (char 97) (cat (char 97) end_of_cat))) end_of_cat))) (cat goal end_of_cat))
    (utf8_text (97 ∷ 99 ∷ 97 ∷ []) false) 0 ≡ (found 0 1 [] ∷ [])
unfolding matches
judged_1_57 = refl

-- `(?:a(?<!(?:a|a)))??` on `ca`
judged_1_58 : matches (cat (cat (loop (times 0 (Some 1) false) 0 0
    (cat (char 97) (cat (lookaround (look true true 0 0)
    (cat (alt (cat (char 97) end_of_cat) (cat (char 97) end_of_cat)) end_of_cat)) end_of_cat))) end_of_cat)
    (cat goal end_of_cat)) (utf8_text (99 ∷ 97 ∷ []) false)
    0 ≡ (found 0 0 [] ∷ found 1 1 [] ∷ found 2 2 [] ∷ [])
unfolding matches
judged_1_58 = refl

-- `a` on `cabccba`
judged_1_59 : matches (cat (cat (char 97) end_of_cat) (cat goal end_of_cat))
    (utf8_text (99 ∷ 97 ∷ 98 ∷ 99 ∷ 99 ∷ 98 ∷ 97 ∷ []) false) 0 ≡ (found 1 2 [] ∷ found 6 7 [] ∷ [])
unfolding matches
judged_1_59 = refl

-- `(?:(?=(?:(?:a|a))*?)|a)b` on `ab`
judged_1_60 : matches (cat (cat (alt (cat (lookaround (look false false 0 0)
    (cat (loop (times 0 None false) 0 0 (cat (alt (cat (char 97) end_of_cat) (cat (char 97) end_of_cat)) end_of_cat))
    end_of_cat)) end_of_cat) (cat (char 97) end_of_cat)) (cat (char 98) end_of_cat)) (cat goal end_of_cat))
    (utf8_text (97 ∷ 98 ∷ []) false) 0 ≡ (found 0 2 [] ∷ [])
unfolding matches
judged_1_60 = refl

-- `(?:a|((a)))` on `bbac`
judged_1_61 : matches (cat (cat (alt (cat (char 97) end_of_cat)
    (cat (capture_group 0 [] (cat (capture_group 1 [] (cat (char 97) end_of_cat)) end_of_cat)) end_of_cat)) end_of_cat)
    (cat goal end_of_cat)) (utf8_text (98 ∷ 98 ∷ 97 ∷ 99 ∷ []) false) 0 ≡ (found 2 3 (None ∷ None ∷ []) ∷ [])
unfolding matches
judged_1_61 = refl

-- `b` on `bcb`
judged_1_62 : matches (cat (cat (char 98) end_of_cat) (cat goal end_of_cat)) (utf8_text (98 ∷ 99 ∷ 98 ∷ []) false)
    0 ≡ (found 0 1 [] ∷ found 2 3 [] ∷ [])
unfolding matches
judged_1_62 = refl

-- `b$` on `ab`
judged_1_63 : matches (cat (cat (char 98) (cat (anchor end_of_line false) end_of_cat)) (cat goal end_of_cat))
    (utf8_text (97 ∷ 98 ∷ []) false) 0 ≡ (found 1 2 [] ∷ [])
unfolding matches
judged_1_63 = refl

-- `(?:(?:b)?(?:a|a)a|(?:a)+?)` on `b`
judged_1_64 : matches (cat (cat (alt (cat (loop (times 0 (Some 1) true) 0 0 (cat (char 98) end_of_cat))
    (cat (alt (cat (char 97) end_of_cat) (cat (char 97) end_of_cat)) (cat (char 97) end_of_cat)))
    (cat (loop (times 1 None false) 0 0 (cat (char 97) end_of_cat)) end_of_cat)) end_of_cat) (cat goal end_of_cat))
    (utf8_text (98 ∷ []) false) 0 ≡ []
unfolding matches
judged_1_64 = refl

-- `^(?:ab|(?<!(?:){0,2}?))$` on `abbaaba`
judged_1_65 : matches (cat (cat (anchor start_of_line false)
    (cat (alt (cat (char 97) (cat (char 98) end_of_cat))
    (cat (lookaround (look true true 0 0) (cat (loop (times 0 (Some 2) false) 0 0 end_of_cat) end_of_cat))
    end_of_cat)) (cat (anchor end_of_line false) end_of_cat))) (cat goal end_of_cat))
    (utf8_text (97 ∷ 98 ∷ 98 ∷ 97 ∷ 97 ∷ 98 ∷ 97 ∷ []) false) 0 ≡ []
unfolding matches
judged_1_65 = refl

-- `b` on `aaaaab`
judged_1_66 : matches (cat (cat (char 98) end_of_cat) (cat goal end_of_cat))
    (utf8_text (97 ∷ 97 ∷ 97 ∷ 97 ∷ 97 ∷ 98 ∷ []) false) 0 ≡ (found 5 6 [] ∷ [])
unfolding matches
judged_1_66 = refl

-- `^(?:a)?` on `aca`
judged_1_67 : matches (cat (cat (anchor start_of_line false)
    (cat (loop (times 0 (Some 1) true) 0 0 (cat (char 97) end_of_cat)) end_of_cat)) (cat goal end_of_cat))
    (utf8_text (97 ∷ 99 ∷ 97 ∷ []) false) 0 ≡ (found 0 1 [] ∷ [])
unfolding matches
judged_1_67 = refl

-- `a` on `ababbbb`
judged_1_68 : matches (cat (cat (char 97) end_of_cat) (cat goal end_of_cat))
    (utf8_text (97 ∷ 98 ∷ 97 ∷ 98 ∷ 98 ∷ 98 ∷ 98 ∷ []) false) 0 ≡ (found 0 1 [] ∷ found 2 3 [] ∷ [])
unfolding matches
judged_1_68 = refl

-- `aab(?:ab|(?:b)?)` on `cbbb`
judged_1_69 : matches (cat (cat (char 97) (cat (char 97)
    (cat (char 98) (cat (alt (cat (char 97) (cat (char 98) end_of_cat))
    (cat (loop (times 0 (Some 1) true) 0 0 (cat (char 98) end_of_cat)) end_of_cat)) end_of_cat))))
    (cat goal end_of_cat)) (utf8_text (99 ∷ 98 ∷ 98 ∷ 98 ∷ []) false) 0 ≡ []
unfolding matches
judged_1_69 = refl

-- `(?:a){2}` on `abab`
judged_1_70 : matches (cat (cat (loop (times 2 (Some 2) true) 0 0 (cat (char 97) end_of_cat)) end_of_cat)
    (cat goal end_of_cat)) (utf8_text (97 ∷ 98 ∷ 97 ∷ 98 ∷ []) false) 0 ≡ []
unfolding matches
judged_1_70 = refl

-- `(?:(?:b)*?){2}` on `ccbabca`
judged_1_71 : matches (cat (cat (loop (times 2 (Some 2) true) 0 0
    (cat (loop (times 0 None false) 0 0 (cat (char 98) end_of_cat)) end_of_cat)) end_of_cat) (cat goal end_of_cat))
    (utf8_text (99 ∷ 99 ∷ 98 ∷ 97 ∷ 98 ∷ 99 ∷ 97 ∷ []) false)
    0 ≡ (found 0 0 [] ∷ found 1 1 [] ∷ found 2 2 [] ∷ found 3 3 [] ∷ found 4 4 [] ∷ found 5 5 [] ∷ found 6 6
    [] ∷ found 7 7 [] ∷ [])
unfolding matches
judged_1_71 = refl

-- `(?:a)+` on `aaaabcb`
judged_1_72 : matches (cat (cat (loop (times 1 None true) 0 0 (cat (char 97) end_of_cat)) end_of_cat)
    (cat goal end_of_cat)) (utf8_text (97 ∷ 97 ∷ 97 ∷ 97 ∷ 98 ∷ 99 ∷ 98 ∷ []) false) 0 ≡ (found 0 4 [] ∷ [])
unfolding matches
judged_1_72 = refl

-- `(?:((b))){2,}c` on `aaa`
judged_1_73 : matches (cat (cat (loop (times 2 None true) 0 2
    (cat (capture_group 0 [] (cat (capture_group 1 [] (cat (char 98) end_of_cat)) end_of_cat)) end_of_cat))
    (cat (char 99) end_of_cat)) (cat goal end_of_cat)) (utf8_text (97 ∷ 97 ∷ 97 ∷ []) false) 0 ≡ []
unfolding matches
judged_1_73 = refl
