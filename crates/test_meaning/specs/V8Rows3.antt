-- Patterns on texts, part 3, with the results of JavaScript's V8: the same flags, and its indices as
-- byte offsets. The trees are those of the patterns, optimized.
use Rattle.std.specs.Prelude.{◌≡◌, [], ◌∷◌, Some, None, refl, true, false}
use Rattle.regex_meaning.specs.Tree.{goal, char, char_set, cat, end_of_cat, alt, bracket, match_any_except_line_terminator, anchor, start_of_line, end_of_line, word_boundary, capture_group, back_ref}
use Rattle.regex_meaning.specs.Tree.{exact, lookaround, loop, loop_1_char_body, match_any}
use Rattle.regex_meaning.specs.Text.{utf8_text}
use Rattle.test_meaning.specs.Computing.{found, matches, times, in_brackets, look}

-- `((?=\1)|a*){2}b` on `cbababa`
judged_3_01 : matches (cat (cat (loop (times 2 (Some 2) true) 0 1
    (capture_group 0 [] (alt (cat (lookaround (look false false 1 1) (cat (back_ref 1 exact) end_of_cat)) end_of_cat)
    (cat (loop_1_char_body (times 0 None true) (char 97)) end_of_cat)))) (cat (char 98) end_of_cat))
    (cat goal end_of_cat)) (utf8_text (99 ∷ 98 ∷ 97 ∷ 98 ∷ 97 ∷ 98 ∷ 97 ∷ []) false)
    0 ≡ (found 1 2 (Some (1, 1) ∷ []) ∷ found 2 4 (Some (2, 3) ∷ []) ∷ found 4 6 (Some (4, 5) ∷ []) ∷ [])
unfolding matches
judged_3_01 = refl

-- `(aa|aa*|\1a){2}` of flags `u` on `cbaabab`
judged_3_02 : matches (cat (cat (loop (times 2 (Some 2) true) 0 1
    (capture_group 0 [] (alt (cat (char 97) (cat (char 97) end_of_cat))
    (alt (cat (char 97) (cat (loop_1_char_body (times 0 None true) (char 97)) end_of_cat))
    (cat (back_ref 1 exact) (cat (char 97) end_of_cat)))))) end_of_cat) (cat goal end_of_cat))
    (utf8_text (99 ∷ 98 ∷ 97 ∷ 97 ∷ 98 ∷ 97 ∷ 98 ∷ []) true) 0 ≡ (found 2 4 (Some (3, 4) ∷ []) ∷ [])
unfolding matches
judged_3_02 = refl

-- `b?((?:|b)(?:(?:a?){2,}b){2,3}?|(?:a|)){3}\b` of flags `i` on `caaaaa`
judged_3_03 : matches (cat (cat (loop_1_char_body (times 0 (Some 1) true) (char_set (66 ∷ 98 ∷ [])))
    (cat (loop (times 3 (Some 3) true) 0 1 (capture_group 0 []
    (alt (cat (alt end_of_cat (cat (char_set (66 ∷ 98 ∷ [])) end_of_cat))
    (cat (loop (times 2 (Some 3) false) 1 1
    (cat (loop (times 2 None true) 1 1 (cat
    (loop_1_char_body (times 0 (Some 1) true) (char_set (65 ∷ 97 ∷ []))) end_of_cat))
    (cat (char_set (66 ∷ 98 ∷ [])) end_of_cat))) end_of_cat))
    (cat (alt (cat (char_set (65 ∷ 97 ∷ [])) end_of_cat) end_of_cat) end_of_cat))))
    (cat (word_boundary false false) end_of_cat))) (cat goal end_of_cat))
    (utf8_text (99 ∷ 97 ∷ 97 ∷ 97 ∷ 97 ∷ 97 ∷ []) false)
    0 ≡ (found 0 0 (Some (0, 0) ∷ []) ∷ found 3 6 (Some (5, 6) ∷ []) ∷ found 6 6
    (Some (6, 6) ∷ []) ∷ [])
unfolding matches
judged_3_03 = refl

-- `[s\u{212A}]??[ab]{3,}ab` on `\u{E9}\u{17F}\u{17F}\u{17F}ss\u{A}\u{A}\u{A}`
judged_3_04 : matches (cat (cat (loop_1_char_body (times 0 (Some 1) false)
    (bracket (in_brackets false ((115, 115) ∷ (8490, 8490) ∷ []))))
    (cat (loop_1_char_body (times 3 None true) (bracket (in_brackets false ((97, 98) ∷ []))))
    (cat (char 97) (cat (char 98) end_of_cat)))) (cat goal end_of_cat))
    (utf8_text (195 ∷ 169 ∷ 197 ∷ 191 ∷ 197 ∷ 191 ∷ 197 ∷ 191 ∷ 115 ∷ 115 ∷ 10 ∷ 10 ∷ 10 ∷ []) false) 0 ≡ []
unfolding matches
judged_3_04 = refl

-- `[ab]?(\u{1F600}{2,}).` of flags `u` on `kkkkkbbb`
judged_3_05 : matches (cat (cat (loop_1_char_body (times 0 (Some 1) true) (bracket (in_brackets false ((97, 98) ∷ []))))
    (cat (capture_group 0 [] (cat (loop_1_char_body (times 2 None true) (char 128512)) end_of_cat))
    (cat match_any_except_line_terminator end_of_cat))) (cat goal end_of_cat))
    (utf8_text (107 ∷ 107 ∷ 107 ∷ 107 ∷ 107 ∷ 98 ∷ 98 ∷ 98 ∷ []) true) 0 ≡ []
unfolding matches
judged_3_05 = refl

-- `(?<=^[^a]{1,4}[^a]+)ab` of flags `u` on `\u{A}\u{A}\u{A}aa`
judged_3_06 : matches (cat (cat (lookaround (look false true 0 0)
    (cat (loop_1_char_body (times 1 None true) (bracket (in_brackets true ((97, 97) ∷ []))))
    (cat (loop_1_char_body (times 1 (Some 4) true) (bracket (in_brackets true ((97, 97) ∷ []))))
    (cat (anchor start_of_line false) end_of_cat)))) (cat (char 97) (cat (char 98) end_of_cat)))
    (cat goal end_of_cat)) (utf8_text (10 ∷ 10 ∷ 10 ∷ 97 ∷ 97 ∷ []) true) 0 ≡ []
unfolding matches
judged_3_06 = refl

-- `a{1,1}.*[ab]{2}` of flags `u` on `\u{17F}AA`
judged_3_07 : matches (cat (cat (loop_1_char_body (times 1 (Some 1) true) (char 97))
    (cat (loop_1_char_body (times 0 None true) match_any_except_line_terminator)
    (cat (loop_1_char_body (times 2 (Some 2) true) (bracket (in_brackets false ((97, 98) ∷ [])))) end_of_cat)))
    (cat goal end_of_cat)) (utf8_text (197 ∷ 191 ∷ 65 ∷ 65 ∷ []) true) 0 ≡ []
unfolding matches
judged_3_07 = refl

-- `([a-\u{E9}])\1{2,3}\b` of flags `u` on `\u{E9}s`
judged_3_08 : matches (cat (cat (capture_group 0 [] (cat (bracket (in_brackets false ((97, 233) ∷ []))) end_of_cat))
    (cat (loop (times 2 (Some 3) true) 1 1 (back_ref 1 exact)) (cat (word_boundary false false) end_of_cat)))
    (cat goal end_of_cat)) (utf8_text (195 ∷ 169 ∷ 115 ∷ []) true) 0 ≡ []
unfolding matches
judged_3_08 = refl

-- `(?<!b{3,3}b{0,1}?)(?!a)` on `aaassbb`
judged_3_09 : matches (cat (cat (lookaround (look true true 0 0)
    (cat (loop_1_char_body (times 0 (Some 1) false) (char 98))
    (cat (loop_1_char_body (times 3 (Some 3) true) (char 98)) end_of_cat)))
    (cat (lookaround (look true false 0 0) (cat (char 97) end_of_cat)) end_of_cat)) (cat goal end_of_cat))
    (utf8_text (97 ∷ 97 ∷ 97 ∷ 115 ∷ 115 ∷ 98 ∷ 98 ∷ []) false)
    0 ≡ (found 3 3 [] ∷ found 4 4 [] ∷ found 5 5 [] ∷ found 6 6 [] ∷ found 7 7 [] ∷ [])
unfolding matches
judged_3_09 = refl

-- `(?<!(a{1,4}?)a*a{1,2}?)a` of flags `i` on `aa\u{212A}kaaaaa`
judged_3_10 : matches (cat (cat (lookaround (look true true 0 1)
    (cat (loop_1_char_body (times 1 (Some 2) false) (char_set (65 ∷ 97 ∷ [])))
    (cat (loop_1_char_body (times 0 None true) (char_set (65 ∷ 97 ∷ [])))
    (cat (capture_group 0 [] (cat (loop_1_char_body (times 1 (Some 4) false) (char_set (65 ∷ 97 ∷ [])))
    end_of_cat)) end_of_cat)))) (cat (char_set (65 ∷ 97 ∷ [])) end_of_cat)) (cat goal end_of_cat))
    (utf8_text (97 ∷ 97 ∷ 226 ∷ 132 ∷ 170 ∷ 107 ∷ 97 ∷ 97 ∷ 97 ∷ 97 ∷ 97 ∷ []) false)
    0 ≡ (found 0 1 (None ∷ []) ∷ found 1 2 (None ∷ []) ∷ found 6 7 (None ∷ []) ∷ found 7 8
    (None ∷ []) ∷ [])
unfolding matches
judged_3_10 = refl

-- `.{0,2}?\b` on `a`
judged_3_11 : matches (cat (cat (loop_1_char_body (times 0 (Some 2) false) match_any_except_line_terminator)
    (cat (word_boundary false false) end_of_cat)) (cat goal end_of_cat)) (utf8_text (97 ∷ []) false)
    0 ≡ (found 0 0 [] ∷ found 1 1 [] ∷ [])
unfolding matches
judged_3_11 = refl

-- `(?<=^(\S{0,}?)a??)(?=b)` on `bbbb`
judged_3_12 : matches (cat (cat (lookaround (look false true 0 1)
    (cat (loop_1_char_body (times 0 (Some 1) false) (char 97))
    (cat (capture_group 0 [] (cat (loop_1_char_body (times 0 None false)
    (bracket (in_brackets false ((0, 8) ∷ (14, 31) ∷ (33, 159) ∷ (161, 5759) ∷ (5761, 8191) ∷ (8203, 8231)
    ∷ (8234, 8238) ∷ (8240, 8286) ∷ (8288, 12287) ∷ (12289, 65278) ∷ (65280, 1114111) ∷ [])))) end_of_cat))
    (cat (anchor start_of_line false) end_of_cat))))
    (cat (lookaround (look false false 1 1) (cat (char 98) end_of_cat)) end_of_cat))
    (cat goal end_of_cat)) (utf8_text (98 ∷ 98 ∷ 98 ∷ 98 ∷ []) false)
    0 ≡ (found 0 0 (Some (0, 0) ∷ []) ∷ found 1 1 (Some (0, 1) ∷ []) ∷ found 2 2
    (Some (0, 2) ∷ []) ∷ found 3 3 (Some (0, 3) ∷ []) ∷ [])
unfolding matches
judged_3_12 = refl

-- `[a-\u{E9}]{3,5}?[^a]+?a{1,4}?` of flags `i` on `aaaaa`
judged_3_13 : matches (cat (cat (loop_1_char_body (times 3 (Some 5) false)
    (bracket (in_brackets false ((65, 90) ∷ (97, 233) ∷ []))))
    (cat (loop_1_char_body (times 1 None false) (bracket (in_brackets true ((65, 65) ∷ (97, 97) ∷ []))))
    (cat (loop_1_char_body (times 1 (Some 4) false) (char_set (65 ∷ 97 ∷ []))) end_of_cat)))
    (cat goal end_of_cat)) (utf8_text (97 ∷ 97 ∷ 97 ∷ 97 ∷ 97 ∷ []) false) 0 ≡ []
unfolding matches
judged_3_13 = refl

-- `[^\n]{2,3}.?(a*)b` of flags `i` on `baabss`
judged_3_14 : matches (cat (cat (loop_1_char_body (times 2 (Some 3) true) (bracket (in_brackets true ((10, 10) ∷ []))))
    (cat (loop_1_char_body (times 0 (Some 1) true) match_any_except_line_terminator)
    (cat (capture_group 0 [] (cat (loop_1_char_body (times 0 None true) (char_set (65 ∷ 97 ∷ []))) end_of_cat))
    (cat (char_set (66 ∷ 98 ∷ [])) end_of_cat)))) (cat goal end_of_cat))
    (utf8_text (98 ∷ 97 ∷ 97 ∷ 98 ∷ 115 ∷ 115 ∷ []) false) 0 ≡ (found 0 4 (Some (3, 3) ∷ []) ∷ [])
unfolding matches
judged_3_14 = refl

-- `(a*)(a??)\b` of flags `i` on `aaaaaaab`
judged_3_15 : matches (cat (cat (capture_group 0 []
    (cat (loop_1_char_body (times 0 None true) (char_set (65 ∷ 97 ∷ []))) end_of_cat))
    (cat (capture_group 1 [] (cat (loop_1_char_body (times 0 (Some 1) false) (char_set (65 ∷ 97 ∷ []))) end_of_cat))
    (cat (word_boundary false false) end_of_cat))) (cat goal end_of_cat))
    (utf8_text (97 ∷ 97 ∷ 97 ∷ 97 ∷ 97 ∷ 97 ∷ 97 ∷ 98 ∷ []) false)
    0 ≡ (found 0 0 (Some (0, 0) ∷ Some (0, 0) ∷ []) ∷ found 8 8 (Some (8, 8) ∷ Some (8, 8) ∷ []) ∷ [])
unfolding matches
judged_3_15 = refl

-- `(?:(a?)a{0}?b)+.` on `aaaa\u{A}\u{A}kk\u{A}\u{A}`
judged_3_16 : matches (cat (cat (loop (times 1 None true) 0 1
    (cat (capture_group 0 [] (cat (loop_1_char_body (times 0 (Some 1) true) (char 97)) end_of_cat))
    (cat (loop_1_char_body (times 0 (Some 0) false) (char 97)) (cat (char 98) end_of_cat))))
    (cat match_any_except_line_terminator end_of_cat)) (cat goal end_of_cat))
    (utf8_text (97 ∷ 97 ∷ 97 ∷ 97 ∷ 10 ∷ 10 ∷ 107 ∷ 107 ∷ 10 ∷ 10 ∷ []) false) 0 ≡ []
unfolding matches
judged_3_16 = refl

-- `(?<!(\w{1,}?)\S{3,}a{1,4})$` of flags `iu` on `aaaaa\u{E9}\u{E9}\u{E9}`
judged_3_17 : matches (cat (cat (lookaround (look true true 0 1)
    (cat (loop_1_char_body (times 1 (Some 4) true) (char_set (65 ∷ 97 ∷ [])))
    (cat (loop_1_char_body (times 3 None true) (bracket
    (in_brackets false ((0, 8) ∷ (14, 31) ∷ (33, 159) ∷ (161, 5759) ∷ (5761, 8191) ∷ (8203, 8231) ∷ (8234, 8238)
    ∷ (8240, 8286) ∷ (8288, 12287) ∷ (12289, 65278) ∷ (65280, 1114111) ∷ []))))
    (cat (capture_group 0 [] (cat (loop_1_char_body (times 1 None false)
    (bracket (in_brackets false
    ((48, 57) ∷ (65, 90) ∷ (95, 95) ∷ (97, 122) ∷ (383, 383) ∷ (8490, 8490) ∷ []))))
    end_of_cat)) end_of_cat)))) (cat (anchor end_of_line false) end_of_cat))
    (cat goal end_of_cat))
    (utf8_text (97 ∷ 97 ∷ 97 ∷ 97 ∷ 97 ∷ 195 ∷ 169 ∷ 195 ∷ 169 ∷ 195 ∷ 169 ∷ [])
    true) 0 ≡ (found 11 11 (None ∷ []) ∷ [])
unfolding matches
judged_3_17 = refl

-- `(?<=(\u{20AC}{1,3}?)\u{20AC}{0,0}a{2,3})\b` of flags `iu` on `aaaaaaaa`
judged_3_18 : matches (cat (cat (lookaround (look false true 0 1)
    (cat (loop_1_char_body (times 2 (Some 3) true) (char_set (65 ∷ 97 ∷ [])))
    (cat (loop_1_char_body (times 0 (Some 0) true) (char 8364))
    (cat (capture_group 0 [] (cat (loop_1_char_body (times 1 (Some 3) false) (char 8364)) end_of_cat))
    end_of_cat)))) (cat (word_boundary false true) end_of_cat)) (cat goal end_of_cat))
    (utf8_text (97 ∷ 97 ∷ 97 ∷ 97 ∷ 97 ∷ 97 ∷ 97 ∷ 97 ∷ []) true) 0 ≡ []
unfolding matches
judged_3_18 = refl

-- `(.*)a*a{0,0}` on `bb`
judged_3_19 : matches (cat (cat (capture_group 0 []
    (cat (loop_1_char_body (times 0 None true) match_any_except_line_terminator) end_of_cat))
    (cat (loop_1_char_body (times 0 None true) (char 97))
    (cat (loop_1_char_body (times 0 (Some 0) true) (char 97)) end_of_cat))) (cat goal end_of_cat))
    (utf8_text (98 ∷ 98 ∷ []) false) 0 ≡ (found 0 2 (Some (0, 2) ∷ []) ∷ found 2 2 (Some (2, 2) ∷ []) ∷ [])
unfolding matches
judged_3_19 = refl

-- `.{3,3}?a{3,3}?([a-\u{E9}]{0,1}?)(?=b)` on `AA`
judged_3_20 : matches (cat (cat (loop_1_char_body (times 3 (Some 3) false) match_any_except_line_terminator)
    (cat (loop_1_char_body (times 3 (Some 3) false) (char 97))
    (cat (capture_group 0 [] (cat (loop_1_char_body (times 0 (Some 1) false)
    (bracket (in_brackets false ((97, 233) ∷ [])))) end_of_cat))
    (cat (lookaround (look false false 1 1) (cat (char 98) end_of_cat)) end_of_cat))))
    (cat goal end_of_cat)) (utf8_text (65 ∷ 65 ∷ []) false) 0 ≡ []
unfolding matches
judged_3_20 = refl

-- `^([\u{E9}\u{20AC}]{3}).` on `\u{E9}sssaaa`
judged_3_21 : matches (cat (cat (anchor start_of_line false)
    (cat (capture_group 0 [] (cat (loop_1_char_body (times 3 (Some 3) true)
    (bracket (in_brackets false ((233, 233) ∷ (8364, 8364) ∷ [])))) end_of_cat))
    (cat match_any_except_line_terminator end_of_cat))) (cat goal end_of_cat))
    (utf8_text (195 ∷ 169 ∷ 115 ∷ 115 ∷ 115 ∷ 97 ∷ 97 ∷ 97 ∷ []) false) 0 ≡ []
unfolding matches
judged_3_21 = refl

-- `(a)\1{1,1}ab` of flags `u` on `aaaaaabb`
judged_3_22 : matches (cat (cat (capture_group 0 [] (cat (char 97) end_of_cat))
    (cat (loop (times 1 (Some 1) true) 1 1 (back_ref 1 exact)) (cat (char 97) (cat (char 98) end_of_cat))))
    (cat goal end_of_cat)) (utf8_text (97 ∷ 97 ∷ 97 ∷ 97 ∷ 97 ∷ 97 ∷ 98 ∷ 98 ∷ []) true)
    0 ≡ (found 3 7 (Some (3, 4) ∷ []) ∷ [])
unfolding matches
judged_3_22 = refl

-- `s*\w{3}?b*$` of flags `s` on `bb\u{17F}\u{17F}kkk`
judged_3_23 : matches (cat (cat (loop_1_char_body (times 0 None true) (char 115))
    (cat (loop_1_char_body (times 3 (Some 3) false)
    (bracket (in_brackets false ((48, 57) ∷ (65, 90) ∷ (95, 95) ∷ (97, 122) ∷ []))))
    (cat (loop_1_char_body (times 0 None true) (char 98)) (cat (anchor end_of_line false) end_of_cat))))
    (cat goal end_of_cat)) (utf8_text (98 ∷ 98 ∷ 197 ∷ 191 ∷ 197 ∷ 191 ∷ 107 ∷ 107 ∷ 107 ∷ []) false)
    0 ≡ (found 6 9 [] ∷ [])
unfolding matches
judged_3_23 = refl

-- `(?:a{0,3}\w{2,2}?([a-\u{E9}]{3,4})b)+(?=b)` of flags `s` on `\u{E9}bbb`
judged_3_24 : matches (cat (cat (loop (times 1 None true) 0 1
    (cat (loop_1_char_body (times 0 (Some 3) true) (char 97))
    (cat (loop_1_char_body (times 2 (Some 2) false)
    (bracket (in_brackets false ((48, 57) ∷ (65, 90) ∷ (95, 95) ∷ (97, 122) ∷ []))))
    (cat (capture_group 0 [] (cat (loop_1_char_body (times 3 (Some 4) true)
    (bracket (in_brackets false ((97, 233) ∷ [])))) end_of_cat)) (cat (char 98) end_of_cat)))))
    (cat (lookaround (look false false 1 1) (cat (char 98) end_of_cat)) end_of_cat))
    (cat goal end_of_cat)) (utf8_text (195 ∷ 169 ∷ 98 ∷ 98 ∷ 98 ∷ []) false) 0 ≡ []
unfolding matches
judged_3_24 = refl

-- `^(b??)(.+)b{3,6}` of flags `i` on `bbbb\u{17F}\u{17F}\u{20AC}\u{20AC}`
judged_3_25 : matches (cat (cat (anchor start_of_line false)
    (cat (capture_group 0 [] (cat (loop_1_char_body (times 0 (Some 1) false) (char_set (66 ∷ 98 ∷ []))) end_of_cat))
    (cat (capture_group 1 [] (cat (loop_1_char_body (times 1 None true) match_any_except_line_terminator)
    end_of_cat)) (cat (loop_1_char_body (times 3 (Some 6) true) (char_set (66 ∷ 98 ∷ []))) end_of_cat))))
    (cat goal end_of_cat)) (utf8_text (98 ∷ 98 ∷ 98 ∷ 98 ∷ 197 ∷ 191 ∷ 197 ∷ 191 ∷ 226 ∷ 130 ∷ 172 ∷ 226
    ∷ 130 ∷ 172 ∷ []) false) 0 ≡ (found 0 4 (Some (0, 0) ∷ Some (0, 1) ∷ []) ∷ [])
unfolding matches
judged_3_25 = refl

-- `\u{E9}*?(?!a)` on `\u{20AC}\u{20AC}\u{212A}\u{212A}aaaa`
judged_3_26 : matches (cat (cat (loop_1_char_body (times 0 None false) (char 233))
    (cat (lookaround (look true false 0 0) (cat (char 97) end_of_cat)) end_of_cat)) (cat goal end_of_cat))
    (utf8_text (226 ∷ 130 ∷ 172 ∷ 226 ∷ 130 ∷ 172 ∷ 226 ∷ 132 ∷ 170 ∷ 226 ∷ 132 ∷ 170 ∷ 97 ∷ 97 ∷ 97 ∷ 97 ∷ [])
    false) 0 ≡ (found 0 0 [] ∷ found 3 3 [] ∷ found 6 6 [] ∷ found 9 9 [] ∷ found 16 16 [] ∷ [])
unfolding matches
judged_3_26 = refl

-- `.??(?!a)` on `aaa`
judged_3_27 : matches (cat (cat (loop_1_char_body (times 0 (Some 1) false) match_any_except_line_terminator)
    (cat (lookaround (look true false 0 0) (cat (char 97) end_of_cat)) end_of_cat)) (cat goal end_of_cat))
    (utf8_text (97 ∷ 97 ∷ 97 ∷ []) false) 0 ≡ (found 2 3 [] ∷ found 3 3 [] ∷ [])
unfolding matches
judged_3_27 = refl

-- `b+(?=b)` of flags `iu` on `bbbb`
judged_3_28 : matches (cat (cat (loop_1_char_body (times 1 None true) (char_set (66 ∷ 98 ∷ [])))
    (cat (lookaround (look false false 0 0) (cat (char_set (66 ∷ 98 ∷ [])) end_of_cat)) end_of_cat))
    (cat goal end_of_cat)) (utf8_text (98 ∷ 98 ∷ 98 ∷ 98 ∷ []) true) 0 ≡ (found 0 3 [] ∷ [])
unfolding matches
judged_3_28 = refl

-- `(?<!.{3}[a-\u{E9}]{3,6}?)\b` of flags `u` on `bbaaaaaa`
judged_3_29 : matches (cat (cat (lookaround (look true true 0 0)
    (cat (loop_1_char_body (times 3 (Some 6) false) (bracket (in_brackets false ((97, 233) ∷ []))))
    (cat (loop_1_char_body (times 3 (Some 3) true) match_any_except_line_terminator) end_of_cat)))
    (cat (word_boundary false false) end_of_cat)) (cat goal end_of_cat))
    (utf8_text (98 ∷ 98 ∷ 97 ∷ 97 ∷ 97 ∷ 97 ∷ 97 ∷ 97 ∷ []) true) 0 ≡ (found 0 0 [] ∷ [])
unfolding matches
judged_3_29 = refl

-- `([^b]?)(a{0,3})a{0,3}?.` of flags `u` on `ba`
judged_3_30 : matches (cat (cat (capture_group 0 []
    (cat (loop_1_char_body (times 0 (Some 1) true) (bracket (in_brackets true ((98, 98) ∷ [])))) end_of_cat))
    (cat (capture_group 1 [] (cat (loop_1_char_body (times 0 (Some 3) true) (char 97)) end_of_cat))
    (cat (loop_1_char_body (times 0 (Some 3) false) (char 97))
    (cat match_any_except_line_terminator end_of_cat)))) (cat goal end_of_cat))
    (utf8_text (98 ∷ 97 ∷ []) true)
    0 ≡ (found 0 1 (Some (0, 0) ∷ Some (0, 0) ∷ []) ∷ found 1 2
    (Some (1, 1) ∷ Some (1, 1) ∷ []) ∷ [])
unfolding matches
judged_3_30 = refl

-- `a+\b` of flags `i` on `\u{E9}k`
judged_3_31 : matches (cat (cat (loop_1_char_body (times 1 None true) (char_set (65 ∷ 97 ∷ [])))
    (cat (word_boundary false false) end_of_cat)) (cat goal end_of_cat)) (utf8_text (195 ∷ 169 ∷ 107 ∷ []) false) 0 ≡ []
unfolding matches
judged_3_31 = refl

-- `^.{3,}` on `aaaaaaaabb`
judged_3_32 : matches (cat (cat (anchor start_of_line false)
    (cat (loop_1_char_body (times 3 None true) match_any_except_line_terminator) end_of_cat)) (cat goal end_of_cat))
    (utf8_text (97 ∷ 97 ∷ 97 ∷ 97 ∷ 97 ∷ 97 ∷ 97 ∷ 97 ∷ 98 ∷ 98 ∷ []) false) 0 ≡ (found 0 10 [] ∷ [])
unfolding matches
judged_3_32 = refl

-- `(?<=^.{0,0}.{1,4}?\S{0,2})b` on `bbb\u{E9}\u{E9}\u{E9}`
judged_3_33 : matches (cat (cat (lookaround (look false true 0 0)
    (cat (loop_1_char_body (times 0 (Some 2) true) (bracket
    (in_brackets false ((0, 8) ∷ (14, 31) ∷ (33, 159) ∷ (161, 5759) ∷ (5761, 8191) ∷ (8203, 8231) ∷ (8234, 8238)
    ∷ (8240, 8286) ∷ (8288, 12287) ∷ (12289, 65278) ∷ (65280, 1114111) ∷ []))))
    (cat (loop_1_char_body (times 1 (Some 4) false) match_any_except_line_terminator)
    (cat (loop_1_char_body (times 0 (Some 0) true) match_any_except_line_terminator)
    (cat (anchor start_of_line false) end_of_cat))))) (cat (char 98) end_of_cat))
    (cat goal end_of_cat)) (utf8_text (98 ∷ 98 ∷ 98 ∷ 195 ∷ 169 ∷ 195 ∷ 169 ∷ 195 ∷ 169 ∷ [])
    false) 0 ≡ (found 1 2 [] ∷ found 2 3 [] ∷ [])
unfolding matches
judged_3_33 = refl

-- `a{1,4}?$` of flags `iu` on `\u{1F600}\u{1F600}`
judged_3_34 : matches (cat (cat (loop_1_char_body (times 1 (Some 4) false) (char_set (65 ∷ 97 ∷ [])))
    (cat (anchor end_of_line false) end_of_cat)) (cat goal end_of_cat))
    (utf8_text (240 ∷ 159 ∷ 152 ∷ 128 ∷ 240 ∷ 159 ∷ 152 ∷ 128 ∷ []) true) 0 ≡ []
unfolding matches
judged_3_34 = refl

-- `a+?.` on `\u{E9}\u{E9}\u{E9}a`
judged_3_35 : matches (cat (cat (loop_1_char_body (times 1 None false) (char 97))
    (cat match_any_except_line_terminator end_of_cat)) (cat goal end_of_cat))
    (utf8_text (195 ∷ 169 ∷ 195 ∷ 169 ∷ 195 ∷ 169 ∷ 97 ∷ []) false) 0 ≡ []
unfolding matches
judged_3_35 = refl

-- `a{2}` of flags `s` on `b,aa`
judged_3_36 : matches (cat (cat (loop_1_char_body (times 2 (Some 2) true) (char 97)) end_of_cat) (cat goal end_of_cat))
    (utf8_text (98 ∷ 44 ∷ 97 ∷ 97 ∷ []) false) 0 ≡ (found 2 4 [] ∷ [])
unfolding matches
judged_3_36 = refl

-- `x\b|[\d-](((\u{0041}))??[a\Sa]*)` of flags `mu` on `!x`
judged_3_37 : matches (cat (alt (cat (char 120) (cat (word_boundary false false) end_of_cat))
    (cat (bracket (in_brackets false ((45, 45) ∷ (48, 57) ∷ [])))
    (cat (capture_group 0 [] (cat (loop (times 0 (Some 1) false) 1 3
    (capture_group 1 [] (cat (capture_group 2 [] (cat (char 65) end_of_cat)) end_of_cat)))
    (cat (loop_1_char_body (times 0 None true)
    (bracket (in_brackets false ((0, 8) ∷ (14, 31) ∷ (33, 159) ∷ (161, 5759) ∷ (5761, 8191)
    ∷ (8203, 8231) ∷ (8234, 8238) ∷ (8240, 8286) ∷ (8288, 12287) ∷ (12289, 65278) ∷ (65280, 1114111)
    ∷ [])))) end_of_cat))) end_of_cat))) (cat goal end_of_cat)) (utf8_text (33 ∷ 120 ∷ []) true)
    0 ≡ (found 1 2 (None ∷ None ∷ None ∷ []) ∷ [])
unfolding matches
judged_3_37 = refl

-- `([][<a-]).` on `11<kb-A`
judged_3_38 : matches (cat (cat (capture_group 0 []
    (cat (bracket (in_brackets false [])) (cat (bracket (in_brackets false ((45, 45) ∷ (60, 60) ∷ (97, 97) ∷ [])))
    end_of_cat))) (cat match_any_except_line_terminator end_of_cat)) (cat goal end_of_cat))
    (utf8_text (49 ∷ 49 ∷ 60 ∷ 107 ∷ 98 ∷ 45 ∷ 65 ∷ []) false) 0 ≡ []
unfolding matches
judged_3_38 = refl

-- `a(?<=c{0,0})` of flags `iu` on `a\u{3000}`
judged_3_39 : matches (cat (cat (char_set (65 ∷ 97 ∷ []))
    (cat (lookaround (look false true 0 0) (cat (loop_1_char_body (times 0 (Some 0) true) (char_set (67 ∷ 99 ∷ [])))
    end_of_cat)) end_of_cat)) (cat goal end_of_cat)) (utf8_text (97 ∷ 227 ∷ 128 ∷ 128 ∷ []) true)
    0 ≡ (found 0 1 [] ∷ [])
unfolding matches
judged_3_39 = refl

-- `(\1)K` on `cbccccaca`
judged_3_40 : matches (cat (cat (capture_group 0 [] (cat (back_ref 1 exact) end_of_cat)) (cat (char 75) end_of_cat))
    (cat goal end_of_cat)) (utf8_text (99 ∷ 98 ∷ 99 ∷ 99 ∷ 99 ∷ 99 ∷ 97 ∷ 99 ∷ 97 ∷ []) false) 0 ≡ []
unfolding matches
judged_3_40 = refl

-- `0()\D ` on `0b 0b `
judged_3_41 : matches (cat (cat (char 48) (cat (capture_group 0 [] end_of_cat)
    (cat (bracket (in_brackets false ((0, 47) ∷ (58, 1114111) ∷ []))) (cat (char 32) end_of_cat))))
    (cat goal end_of_cat)) (utf8_text (48 ∷ 98 ∷ 32 ∷ 48 ∷ 98 ∷ 32 ∷ []) false)
    0 ≡ (found 0 3 (Some (1, 1) ∷ []) ∷ found 3 6 (Some (4, 4) ∷ []) ∷ [])
unfolding matches
judged_3_41 = refl

-- `(?<n0>a*?.\w?\k<n0>){2,4}` of flags `u` on `aaakaaaaacakaa`
judged_3_42 : matches (cat (cat (loop (times 2 (Some 4) true) 0 1
    (capture_group 0 (110 ∷ 48 ∷ []) (cat (loop_1_char_body (times 0 None false) (char 97))
    (cat match_any_except_line_terminator (cat (loop_1_char_body (times 0 (Some 1) true)
    (bracket (in_brackets false ((48, 57) ∷ (65, 90) ∷ (95, 95) ∷ (97, 122) ∷ []))))
    (cat (back_ref 1 exact) end_of_cat)))))) end_of_cat) (cat goal end_of_cat))
    (utf8_text (97 ∷ 97 ∷ 97 ∷ 107 ∷ 97 ∷ 97 ∷ 97 ∷ 97 ∷ 97 ∷ 99 ∷ 97 ∷ 107 ∷ 97 ∷ 97 ∷ []) true)
    0 ≡ (found 0 8 (Some (6, 8) ∷ []) ∷ found 8 14 (Some (12, 14) ∷ []) ∷ [])
unfolding matches
judged_3_42 = refl

-- `(b|\1(?<!\d |a)).*?0` on `bB 0`
judged_3_43 : matches (cat (cat (capture_group 0 []
    (alt (cat (char 98) end_of_cat) (cat (back_ref 1 exact)
    (cat (lookaround (look true true 1 1) (alt (cat (char 32)
    (cat (bracket (in_brackets false ((48, 57) ∷ []))) end_of_cat)) (cat (char 97) end_of_cat))) end_of_cat))))
    (cat (loop_1_char_body (times 0 None false) match_any_except_line_terminator)
    (cat (char 48) end_of_cat))) (cat goal end_of_cat)) (utf8_text (98 ∷ 66 ∷ 32 ∷ 48 ∷ []) false)
    0 ≡ (found 0 4 (Some (0, 1) ∷ []) ∷ [])
unfolding matches
judged_3_43 = refl

-- `k` of flags `ms` on `k`
judged_3_44 : matches (cat (cat (char 107) end_of_cat) (cat goal end_of_cat)) (utf8_text (107 ∷ []) false)
    0 ≡ (found 0 1 [] ∷ [])
unfolding matches
judged_3_44 = refl

-- `(?<=(?<!.|[\u{2028}-]{0}b*s*)\u{01f600}|k|\s)\d` of flags `u` on ` 1`
judged_3_45 : matches (cat (cat (lookaround (look false true 0 0)
    (alt (cat (char 128512) (cat (lookaround (look true true 0 0)
    (alt (cat match_any_except_line_terminator end_of_cat)
    (cat (loop_1_char_body (times 0 None true) (char 115))
    (cat (loop_1_char_body (times 0 None true) (char 98))
    (cat (loop_1_char_body (times 0 (Some 0) true)
    (bracket (in_brackets false ((45, 45) ∷ (8232, 8232) ∷ [])))) end_of_cat))))) end_of_cat))
    (alt (cat (char 107) end_of_cat)
    (cat (bracket (in_brackets false
    ((9, 13) ∷ (32, 32) ∷ (160, 160) ∷ (5760, 5760) ∷ (8192, 8202) ∷ (8232, 8233)
    ∷ (8239, 8239) ∷ (8287, 8287) ∷ (12288, 12288) ∷ (65279, 65279) ∷ [])))
    end_of_cat)))) (cat (bracket (in_brackets false ((48, 57) ∷ [])))
    end_of_cat)) (cat goal end_of_cat)) (utf8_text (32 ∷ 49 ∷ []) true)
    0 ≡ (found 1 2 [] ∷ [])
unfolding matches
judged_3_45 = refl

-- `\wa_` of flags `iu` on `cbaccc`
judged_3_46 : matches (cat (cat (bracket (in_brackets false
    ((48, 57) ∷ (65, 90) ∷ (95, 95) ∷ (97, 122) ∷ (383, 383) ∷ (8490, 8490) ∷ [])))
    (cat (char_set (65 ∷ 97 ∷ [])) (cat (char 95) end_of_cat))) (cat goal end_of_cat))
    (utf8_text (99 ∷ 98 ∷ 97 ∷ 99 ∷ 99 ∷ 99 ∷ []) true) 0 ≡ []
unfolding matches
judged_3_46 = refl

-- `,{0,1}?` of flags `m` on ``
judged_3_47 : matches (cat (cat (loop_1_char_body (times 0 (Some 1) false) (char 44)) end_of_cat) (cat goal end_of_cat))
    (utf8_text [] false) 0 ≡ (found 0 0 [] ∷ [])
unfolding matches
judged_3_47 = refl

-- `(?<n0>k(\ud83d\uDE00*a{1,}^|\u{061}{1,1}.{1}))c+|.?(?=[^\u003C\b+](?:ab<a){0,1})` of flags `miu` on `0,`
judged_3_48 : matches (cat (alt (cat (capture_group 0 (110 ∷ 48 ∷ [])
    (cat (char_set (75 ∷ 107 ∷ 8490 ∷ [])) (cat (capture_group 1 []
    (alt (cat (loop_1_char_body (times 0 None true) (char 128512))
    (cat (loop_1_char_body (times 1 None true) (char_set (65 ∷ 97 ∷ [])))
    (cat (anchor start_of_line true) end_of_cat)))
    (cat (loop_1_char_body (times 1 (Some 1) true) (char_set (65 ∷ 97 ∷ [])))
    (cat (loop_1_char_body (times 1 (Some 1) true) match_any_except_line_terminator) end_of_cat))))
    end_of_cat))) (cat (loop_1_char_body (times 1 None true) (char_set (67 ∷ 99 ∷ [])))
    end_of_cat)) (cat (loop_1_char_body (times 0 (Some 1) true)
    match_any_except_line_terminator)
    (cat (lookaround (look false false 2 2)
    (cat (bracket (in_brackets true ((8, 8) ∷ (43, 43) ∷ (60, 60) ∷ [])))
    (cat (loop (times 0 (Some 1) true) 2 2
    (cat (char_set (65 ∷ 97 ∷ []))
    (cat (char_set (66 ∷ 98 ∷ []))
    (cat (char 60) (cat (char_set (65 ∷ 97 ∷ []))
    end_of_cat))))) end_of_cat))) end_of_cat)))
    (cat goal end_of_cat))
    (utf8_text (48 ∷ 44 ∷ []) true)
    0 ≡ (found 0 1 (None ∷ None ∷ []) ∷ found 1
    1 (None ∷ None ∷ []) ∷ [])
unfolding matches
judged_3_48 = refl

-- `[^\W\-]{1,2}?` of flags `m` on `\u{17F}a`
judged_3_49 : matches (cat (cat (loop_1_char_body (times 1 (Some 2) false)
    (bracket (in_brackets true ((0, 47) ∷ (58, 64) ∷ (91, 94) ∷ (96, 96) ∷ (123, 1114111) ∷ [])))) end_of_cat)
    (cat goal end_of_cat)) (utf8_text (197 ∷ 191 ∷ 97 ∷ []) false) 0 ≡ (found 2 3 [] ∷ [])
unfolding matches
judged_3_49 = refl

-- `(c\v<\b)+A^|\w+.` of flags `mis` on `caabc`
judged_3_50 : matches (cat (alt (cat (loop (times 1 None true) 0 1
    (capture_group 0 [] (cat (char_set (67 ∷ 99 ∷ []))
    (cat (char 11) (cat (char 60) (cat (word_boundary false false) end_of_cat))))))
    (cat (char_set (65 ∷ 97 ∷ [])) (cat (anchor start_of_line true) end_of_cat)))
    (cat (loop_1_char_body (times 1 None true)
    (bracket (in_brackets false ((48, 57) ∷ (65, 90) ∷ (95, 95) ∷ (97, 122) ∷ []))))
    (cat match_any end_of_cat))) (cat goal end_of_cat))
    (utf8_text (99 ∷ 97 ∷ 97 ∷ 98 ∷ 99 ∷ []) false) 0 ≡ (found 0 5 (None ∷ []) ∷ [])
unfolding matches
judged_3_50 = refl

-- `(?!(?!))^(|[^c-\u{E9}9-Z?]\u{FEFF}*0*?)` of flags `mis` on ``
judged_3_51 : matches (cat (cat (lookaround (look true false 0 0)
    (cat (lookaround (look true false 0 0) end_of_cat) end_of_cat))
    (cat (anchor start_of_line true) (cat (capture_group 0 []
    (alt end_of_cat (cat (bracket (in_brackets true ((57, 90) ∷ (97, 233) ∷ [])))
    (cat (loop_1_char_body (times 0 None true) (char 65279))
    (cat (loop_1_char_body (times 0 None false) (char 48)) end_of_cat))))) end_of_cat)))
    (cat goal end_of_cat)) (utf8_text [] false) 0 ≡ (found 0 0 (Some (0, 0) ∷ []) ∷ [])
unfolding matches
judged_3_51 = refl

-- `\x21a` of flags `i` on `\u{2029}-a`
judged_3_52 : matches (cat (cat (char 33) (cat (char_set (65 ∷ 97 ∷ [])) end_of_cat)) (cat goal end_of_cat))
    (utf8_text (226 ∷ 128 ∷ 169 ∷ 45 ∷ 97 ∷ []) false) 0 ≡ []
unfolding matches
judged_3_52 = refl

-- `[^\u007A-\u{17F}]??\S{3}[^]|(?:(?<![\D!-k,]+?_)|\D{1,2}(b)(?:(?:\1)|b)+)*(?:)??` of flags `ms` on `\u{3000}KcccaK`
judged_3_53 : matches (cat (alt (cat (loop_1_char_body (times 0 (Some 1) false)
    (bracket (in_brackets true ((122, 383) ∷ []))))
    (cat (loop_1_char_body (times 3 (Some 3) true)
    (bracket (in_brackets false ((0, 8) ∷ (14, 31) ∷ (33, 159) ∷ (161, 5759) ∷ (5761, 8191) ∷ (8203, 8231)
    ∷ (8234, 8238) ∷ (8240, 8286) ∷ (8288, 12287) ∷ (12289, 65278) ∷ (65280, 1114111) ∷ []))))
    (cat (bracket (in_brackets true [])) end_of_cat)))
    (cat (loop (times 0 None true) 0 1
    (alt (cat (lookaround (look true true 0 0)
    (cat (char 95) (cat (loop_1_char_body (times 1 None false)
    (bracket (in_brackets false ((0, 1114111) ∷ [])))) end_of_cat))) end_of_cat)
    (cat (loop_1_char_body (times 1 (Some 2) true)
    (bracket (in_brackets false ((0, 47) ∷ (58, 1114111) ∷ []))))
    (cat (capture_group 0 [] (cat (char 98) end_of_cat))
    (cat (loop (times 1 None true) 1 1
    (alt (cat (cat (back_ref 1 exact) end_of_cat) end_of_cat)
    (cat (char 98) end_of_cat))) end_of_cat)))))
    (cat (loop (times 0 (Some 1) false) 1 1 end_of_cat)
    end_of_cat))) (cat goal end_of_cat))
    (utf8_text (227 ∷ 128 ∷ 128 ∷ 75 ∷ 99 ∷ 99 ∷ 99
    ∷ 97 ∷ 75 ∷ []) false)
    0 ≡ (found 0 7 (None ∷ []) ∷ found 7 7
    (None ∷ []) ∷ found 8 8
    (None ∷ []) ∷ found 9 9
    (None ∷ []) ∷ [])
unfolding matches
judged_3_53 = refl

-- `(\w\b[^!\s!\u005a-\u{1F600}]){0,1}"?|(?:$.*(?:\1)\u002F){1,3}?` of flags `mu` on `cccab`
judged_3_54 : matches (cat (alt (cat (loop (times 0 (Some 1) true) 0 1
    (capture_group 0 [] (cat (bracket (in_brackets false ((48, 57) ∷ (65, 90) ∷ (95, 95) ∷ (97, 122) ∷ [])))
    (cat (word_boundary false false) (cat (bracket (in_brackets true ((9, 13) ∷ (32, 33) ∷ (90, 128512) ∷ [])))
    end_of_cat))))) (cat (loop_1_char_body (times 0 (Some 1) true) (char 34)) end_of_cat))
    (cat (loop (times 1 (Some 3) false) 1 1
    (cat (anchor end_of_line true) (cat
    (loop_1_char_body (times 0 None true) match_any_except_line_terminator)
    (cat (cat (back_ref 1 exact) end_of_cat) (cat (char 47) end_of_cat))))) end_of_cat))
    (cat goal end_of_cat)) (utf8_text (99 ∷ 99 ∷ 99 ∷ 97 ∷ 98 ∷ []) true)
    0 ≡ (found 0 0 (None ∷ []) ∷ found 1 1 (None ∷ []) ∷ found 2 2 (None ∷ []) ∷ found 3
    3 (None ∷ []) ∷ found 4 4 (None ∷ []) ∷ found 5 5 (None ∷ []) ∷ [])
unfolding matches
judged_3_54 = refl
