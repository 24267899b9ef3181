-- Patterns on texts, part 4, with the results of JavaScript's V8: the same flags, and its indices as
-- byte offsets. The trees are those of the patterns, optimized.
use Rattle.std.specs.Prelude.{◌≡◌, [], ◌∷◌, Some, None, refl, true, false}
use Rattle.regex_meaning.specs.Tree.{goal, char, char_set, cat, end_of_cat, alt, bracket, match_any_except_line_terminator, anchor, start_of_line, end_of_line, word_boundary, capture_group, back_ref}
use Rattle.regex_meaning.specs.Tree.{exact, folded, lookaround, loop, loop_1_char_body, match_any}
use Rattle.regex_meaning.specs.Text.{utf8_text}
use Rattle.test_meaning.specs.Computing.{found, matches, times, in_brackets, look}

-- `((?:\1){0,}?[^*-])*` of flags `su` on `acaa`
judged_4_01 : matches (cat (cat (loop (times 0 None true) 0 1
    (capture_group 0 [] (cat (loop (times 0 None false) 1 1 (cat (back_ref 1 exact) end_of_cat))
    (cat (bracket (in_brackets true ((42, 42) ∷ (45, 45) ∷ []))) end_of_cat)))) end_of_cat) (cat goal end_of_cat))
    (utf8_text (97 ∷ 99 ∷ 97 ∷ 97 ∷ []) true) 0 ≡ (found 0 4 (Some (3, 4) ∷ []) ∷ found 4 4 (None ∷ []) ∷ [])
unfolding matches
judged_4_01 = refl

-- `\u{212A}a|(?:\w0?)(?![a\u{A}]\d*\W*)` of flags `s` on `ba"S\u{20AC}`
judged_4_02 : matches (cat (alt (cat (char 8490) (cat (char 97) end_of_cat))
    (cat (cat (bracket (in_brackets false ((48, 57) ∷ (65, 90) ∷ (95, 95) ∷ (97, 122) ∷ [])))
    (cat (loop_1_char_body (times 0 (Some 1) true) (char 48)) end_of_cat))
    (cat (lookaround (look true false 0 0) (cat (bracket (in_brackets false ((10, 10) ∷ (97, 97) ∷ [])))
    (cat (loop_1_char_body (times 0 None true) (bracket (in_brackets false ((48, 57) ∷ []))))
    (cat (loop_1_char_body (times 0 None true)
    (bracket (in_brackets false ((0, 47) ∷ (58, 64) ∷ (91, 94) ∷ (96, 96) ∷ (123, 1114111) ∷ []))))
    end_of_cat)))) end_of_cat))) (cat goal end_of_cat))
    (utf8_text (98 ∷ 97 ∷ 34 ∷ 83 ∷ 226 ∷ 130 ∷ 172 ∷ []) false)
    0 ≡ (found 1 2 [] ∷ found 3 4 [] ∷ [])
unfolding matches
judged_4_02 = refl

-- `a??b|` of flags `su` on `bK<`
judged_4_03 : matches (cat (alt (cat (loop_1_char_body (times 0 (Some 1) false) (char 97)) (cat (char 98) end_of_cat))
    end_of_cat) (cat goal end_of_cat)) (utf8_text (98 ∷ 75 ∷ 60 ∷ []) true)
    0 ≡ (found 0 1 [] ∷ found 1 1 [] ∷ found 2 2 [] ∷ found 3 3 [] ∷ [])
unfolding matches
judged_4_03 = refl

-- `(?<n0>a[|\u{2028}]{1,3}\u{212A}.|^\k<n0>?|s+?b{2,4}).` of flags `s` on `a||\u{212A}bs`
judged_4_04 : matches (cat (cat (capture_group 0 (110 ∷ 48 ∷ [])
    (alt (cat (char 97) (cat (loop_1_char_body (times 1 (Some 3) true)
    (bracket (in_brackets false ((124, 124) ∷ (8232, 8232) ∷ [])))) (cat (char 8490) (cat match_any end_of_cat))))
    (alt (cat (anchor start_of_line false) (cat (loop (times 0 (Some 1) true) 1 1 (back_ref 1 exact))
    end_of_cat)) (cat (loop_1_char_body (times 1 None false) (char 115))
    (cat (loop_1_char_body (times 2 (Some 4) true) (char 98)) end_of_cat)))))
    (cat match_any end_of_cat)) (cat goal end_of_cat))
    (utf8_text (97 ∷ 124 ∷ 124 ∷ 226 ∷ 132 ∷ 170 ∷ 98 ∷ 115 ∷ []) false)
    0 ≡ (found 0 8 (Some (0, 7) ∷ []) ∷ [])
unfolding matches
judged_4_04 = refl

-- `\u{E9}` on `\u{E9}`
judged_4_05 : matches (cat (cat (char 233) end_of_cat) (cat goal end_of_cat)) (utf8_text (195 ∷ 169 ∷ []) false)
    0 ≡ (found 0 2 [] ∷ [])
unfolding matches
judged_4_05 = refl

-- `c|^(?<n0>\1\w)|\w` of flags `mis` on `c`
judged_4_06 : matches (cat (alt (cat (char_set (67 ∷ 99 ∷ [])) end_of_cat)
    (alt (cat (anchor start_of_line true) (cat (capture_group 0 (110 ∷ 48 ∷ [])
    (cat (back_ref 1 folded) (cat (bracket (in_brackets false ((48, 57) ∷ (65, 90) ∷ (95, 95) ∷ (97, 122) ∷ [])))
    end_of_cat))) end_of_cat)) (cat (bracket
    (in_brackets false ((48, 57) ∷ (65, 90) ∷ (95, 95) ∷ (97, 122) ∷ []))) end_of_cat)))
    (cat goal end_of_cat)) (utf8_text (99 ∷ []) false) 0 ≡ (found 0 1 (None ∷ []) ∷ [])
unfolding matches
judged_4_06 = refl

-- `\uD83D+?` of flags `su` on `0b<"1`
judged_4_07 : matches (cat (cat (loop_1_char_body (times 1 None false) (char 55357)) end_of_cat) (cat goal end_of_cat))
    (utf8_text (48 ∷ 98 ∷ 60 ∷ 34 ∷ 49 ∷ []) true) 0 ≡ []
unfolding matches
judged_4_07 = refl

-- `a.{2,4}|(?=b[^1c-\u{20AC}]+^)(?<n0>(?:\B(b+\w{0}?^|\k<n0>*\u{A0}B)){2,}$)` of flags `iu` on `\u{A0}BbB`
judged_4_08 : matches (cat (alt (cat (char_set (65 ∷ 97 ∷ []))
    (cat (loop_1_char_body (times 2 (Some 4) true) match_any_except_line_terminator) end_of_cat))
    (cat (lookaround (look false false 0 0) (cat (char_set (66 ∷ 98 ∷ []))
    (cat (loop_1_char_body (times 1 None true)
    (bracket (in_brackets true ((49, 49) ∷ (67, 90) ∷ (99, 8364) ∷ (8490, 8490) ∷ []))))
    (cat (anchor start_of_line false) end_of_cat))))
    (cat (capture_group 0 (110 ∷ 48 ∷ [])
    (cat (loop (times 2 None true) 1 2
    (cat (word_boundary true true)
    (cat (capture_group 1 []
    (alt (cat (loop_1_char_body (times 1 None true) (char_set (66 ∷ 98 ∷ [])))
    (cat (loop_1_char_body (times 0 (Some 0) false)
    (bracket (in_brackets false
    ((48, 57) ∷ (65, 90) ∷ (95, 95) ∷ (97, 122) ∷ (383, 383)
    ∷ (8490, 8490) ∷ []))))
    (cat (anchor start_of_line false) end_of_cat)))
    (cat (loop (times 0 None true) 2 2 (back_ref 1 folded))
    (cat (char 160) (cat (char_set (66 ∷ 98 ∷ []))
    end_of_cat))))) end_of_cat)))
    (cat (anchor end_of_line false)
    end_of_cat))) end_of_cat)))
    (cat goal end_of_cat))
    (utf8_text (194 ∷ 160 ∷ 66 ∷ 98
    ∷ 66 ∷ []) true) 0 ≡ []
unfolding matches
judged_4_08 = refl

-- `a` on `ax_`
judged_4_09 : matches (cat (cat (char 97) end_of_cat) (cat goal end_of_cat)) (utf8_text (97 ∷ 120 ∷ 95 ∷ []) false)
    0 ≡ (found 0 1 [] ∷ [])
unfolding matches
judged_4_09 = refl

-- `\u{062}*?.` of flags `iu` on `S<`
judged_4_10 : matches (cat (cat (loop_1_char_body (times 0 None false) (char_set (66 ∷ 98 ∷ [])))
    (cat match_any_except_line_terminator end_of_cat)) (cat goal end_of_cat)) (utf8_text (83 ∷ 60 ∷ []) true)
    0 ≡ (found 0 1 [] ∷ found 1 2 [] ∷ [])
unfolding matches
judged_4_10 = refl

-- `(?<=\x61??|(?:\3))(\2{2,}c^)|(){1,2}[s-\u{17F}\x61](b||a){3}\u{17F}` of flags `s` on `abbccbba`
judged_4_11 : matches (cat (alt (cat (lookaround (look false true 0 0)
    (alt (cat (loop_1_char_body (times 0 (Some 1) false) (char 97)) end_of_cat)
    (cat (cat (back_ref 3 exact) end_of_cat) end_of_cat)))
    (cat (capture_group 0 [] (cat (loop (times 2 None true) 1 1 (back_ref 2 exact))
    (cat (char 99) (cat (anchor start_of_line false) end_of_cat)))) end_of_cat))
    (cat (loop (times 1 (Some 2) true) 1 2 (capture_group 1 [] end_of_cat))
    (cat (bracket (in_brackets false ((97, 97) ∷ (115, 383) ∷ [])))
    (cat (loop (times 3 (Some 3) true) 2 3
    (capture_group 2 [] (alt (cat (char 98) end_of_cat)
    (alt end_of_cat (cat (char 97) end_of_cat))))) (cat (char 383) end_of_cat)))))
    (cat goal end_of_cat))
    (utf8_text (97 ∷ 98 ∷ 98 ∷ 99 ∷ 99 ∷ 98 ∷ 98 ∷ 97 ∷ []) false) 0 ≡ []
unfolding matches
judged_4_11 = refl

-- `\S[^\w\w]\u{1F600}|b` of flags `msu` on `a`
judged_4_12 : matches (cat (alt (cat (bracket (in_brackets false
    ((0, 8) ∷ (14, 31) ∷ (33, 159) ∷ (161, 5759) ∷ (5761, 8191) ∷ (8203, 8231) ∷ (8234, 8238) ∷ (8240, 8286)
    ∷ (8288, 12287) ∷ (12289, 65278) ∷ (65280, 1114111) ∷ [])))
    (cat (bracket (in_brackets true ((48, 57) ∷ (65, 90) ∷ (95, 95) ∷ (97, 122) ∷ [])))
    (cat (char 128512) end_of_cat))) (cat (char 98) end_of_cat)) (cat goal end_of_cat))
    (utf8_text (97 ∷ []) true) 0 ≡ []
unfolding matches
judged_4_12 = refl

-- `\B|a+` of flags `mi` on `a`
judged_4_13 : matches (cat (alt (cat (word_boundary true false) end_of_cat)
    (cat (loop_1_char_body (times 1 None true) (char_set (65 ∷ 97 ∷ []))) end_of_cat)) (cat goal end_of_cat))
    (utf8_text (97 ∷ []) false) 0 ≡ (found 0 1 [] ∷ [])
unfolding matches
judged_4_13 = refl

-- `[a\u{20AC}\u{3000}](?<=|.)!a` of flags `su` on `\u{3000}!a`
judged_4_14 : matches (cat (cat (bracket (in_brackets false ((97, 97) ∷ (8364, 8364) ∷ (12288, 12288) ∷ [])))
    (cat (lookaround (look false true 0 0) (alt end_of_cat (cat match_any end_of_cat)))
    (cat (char 33) (cat (char 97) end_of_cat)))) (cat goal end_of_cat))
    (utf8_text (227 ∷ 128 ∷ 128 ∷ 33 ∷ 97 ∷ []) true) 0 ≡ (found 0 5 [] ∷ [])
unfolding matches
judged_4_14 = refl

-- `a{0,}"+?\S` of flags `iu` on `\u{FEFF},"c\u{17F}""c`
judged_4_15 : matches (cat (cat (loop_1_char_body (times 0 None true) (char_set (65 ∷ 97 ∷ [])))
    (cat (loop_1_char_body (times 1 None false) (char 34))
    (cat (bracket (in_brackets false ((0, 8) ∷ (14, 31) ∷ (33, 159) ∷ (161, 5759) ∷ (5761, 8191) ∷ (8203, 8231)
    ∷ (8234, 8238) ∷ (8240, 8286) ∷ (8288, 12287) ∷ (12289, 65278) ∷ (65280, 1114111) ∷ []))) end_of_cat)))
    (cat goal end_of_cat)) (utf8_text (239 ∷ 187 ∷ 191 ∷ 44 ∷ 34 ∷ 99 ∷ 197 ∷ 191 ∷ 34 ∷ 34 ∷ 99 ∷ []) true)
    0 ≡ (found 4 6 [] ∷ found 8 10 [] ∷ [])
unfolding matches
judged_4_15 = refl

-- `/{0,1}` of flags `miu` on ``
judged_4_16 : matches (cat (cat (loop_1_char_body (times 0 (Some 1) true) (char 47)) end_of_cat) (cat goal end_of_cat))
    (utf8_text [] true) 0 ≡ (found 0 0 [] ∷ [])
unfolding matches
judged_4_16 = refl

-- `K` on `K`
judged_4_17 : matches (cat (cat (char 75) end_of_cat) (cat goal end_of_cat)) (utf8_text (75 ∷ []) false)
    0 ≡ (found 0 1 [] ∷ [])
unfolding matches
judged_4_17 = refl

-- `(\2{1,1}(^[^a0\S\x61-z]){1,2}K)` of flags `mu` on `b cKc  cK`
judged_4_18 : matches (cat (cat (capture_group 0 []
    (cat (loop (times 1 (Some 1) true) 1 1 (back_ref 2 exact))
    (cat (loop (times 1 (Some 2) true) 1 2 (capture_group 1 []
    (cat (anchor start_of_line true) (cat (bracket
    (in_brackets true ((0, 8) ∷ (14, 31) ∷ (33, 159) ∷ (161, 5759) ∷ (5761, 8191) ∷ (8203, 8231)
    ∷ (8234, 8238) ∷ (8240, 8286) ∷ (8288, 12287) ∷ (12289, 65278) ∷ (65280, 1114111) ∷ [])))
    end_of_cat)))) (cat (char 75) end_of_cat)))) end_of_cat) (cat goal end_of_cat))
    (utf8_text (98 ∷ 32 ∷ 99 ∷ 75 ∷ 99 ∷ 32 ∷ 32 ∷ 99 ∷ 75 ∷ []) true) 0 ≡ []
unfolding matches
judged_4_18 = refl

-- `\D+?b{1,1}?a(?!<{1,2}a)` of flags `mis` on `bbbba`
judged_4_19 : matches (cat (cat (loop_1_char_body (times 1 None false)
    (bracket (in_brackets false ((0, 47) ∷ (58, 1114111) ∷ []))))
    (cat (loop_1_char_body (times 1 (Some 1) false) (char_set (66 ∷ 98 ∷ [])))
    (cat (char_set (65 ∷ 97 ∷ [])) (cat (lookaround (look true false 0 0)
    (cat (loop_1_char_body (times 1 (Some 2) true) (char 60)) (cat (char_set (65 ∷ 97 ∷ [])) end_of_cat)))
    end_of_cat)))) (cat goal end_of_cat)) (utf8_text (98 ∷ 98 ∷ 98 ∷ 98 ∷ 97 ∷ []) false)
    0 ≡ (found 0 5 [] ∷ [])
unfolding matches
judged_4_19 = refl

-- `((?:\1)+?)*?A{2,}` of flags `i` on `"s`
judged_4_20 : matches (cat (cat (loop (times 0 None false) 0 1
    (capture_group 0 [] (cat (loop (times 1 None false) 1 1 (cat (back_ref 1 folded) end_of_cat)) end_of_cat)))
    (cat (loop_1_char_body (times 2 None true) (char_set (65 ∷ 97 ∷ []))) end_of_cat)) (cat goal end_of_cat))
    (utf8_text (34 ∷ 115 ∷ []) false) 0 ≡ []
unfolding matches
judged_4_20 = refl

-- `(?<n0>(?:\u{20AC}){2,65536}(?:(\u{E9}?^.,|.?)b)*|\k<n0>\b)?` of flags `mi` on ``
judged_4_21 : matches (cat (cat (loop (times 0 (Some 1) true) 0 2
    (capture_group 0 (110 ∷ 48 ∷ []) (alt (cat (loop (times 2 (Some 65536) true) 1 1 (cat (char 8364) end_of_cat))
    (cat (loop (times 0 None true) 1 2 (cat (capture_group 1 []
    (alt (cat (loop_1_char_body (times 0 (Some 1) true) (char 233))
    (cat (anchor start_of_line true) (cat match_any_except_line_terminator (cat (char 44) end_of_cat))))
    (cat (loop_1_char_body (times 0 (Some 1) true) match_any_except_line_terminator) end_of_cat)))
    (cat (char_set (66 ∷ 98 ∷ [])) end_of_cat))) end_of_cat))
    (cat (back_ref 1 folded) (cat (word_boundary false false) end_of_cat))))) end_of_cat)
    (cat goal end_of_cat)) (utf8_text [] false) 0 ≡ (found 0 0 (None ∷ None ∷ []) ∷ [])
unfolding matches
judged_4_21 = refl

-- `(\1[\u{D}])` of flags `is` on `\u{D}`
judged_4_22 : matches (cat (cat (capture_group 0 []
    (cat (back_ref 1 folded) (cat (bracket (in_brackets false ((13, 13) ∷ []))) end_of_cat))) end_of_cat)
    (cat goal end_of_cat)) (utf8_text (13 ∷ []) false) 0 ≡ (found 0 1 (Some (0, 1) ∷ []) ∷ [])
unfolding matches
judged_4_22 = refl

-- `(?:[]?(?:x\u{1F600}){1,2}|(?:\1)|$((?:\1)\u{2028})?\b)[^\w/]+?.` of flags `mu` on `_x\u{1F600}_K `
judged_4_23 : matches (cat (cat (alt (cat (loop_1_char_body (times 0 (Some 1) true) (bracket (in_brackets false [])))
    (cat (loop (times 1 (Some 2) true) 0 0 (cat (char 120) (cat (char 128512) end_of_cat))) end_of_cat))
    (alt (cat (cat (back_ref 1 exact) end_of_cat) end_of_cat)
    (cat (anchor end_of_line true) (cat (loop (times 0 (Some 1) true) 0 1
    (capture_group 0 [] (cat (cat (back_ref 1 exact) end_of_cat) (cat (char 8232) end_of_cat))))
    (cat (word_boundary false false) end_of_cat)))))
    (cat (loop_1_char_body (times 1 None false)
    (bracket (in_brackets true ((47, 57) ∷ (65, 90) ∷ (95, 95) ∷ (97, 122) ∷ []))))
    (cat match_any_except_line_terminator end_of_cat))) (cat goal end_of_cat))
    (utf8_text (95 ∷ 120 ∷ 240 ∷ 159 ∷ 152 ∷ 128 ∷ 95 ∷ 75 ∷ 32 ∷ []) true)
    0 ≡ (found 2 7 (None ∷ []) ∷ [])
unfolding matches
judged_4_23 = refl

-- `(?<!\D{3}?k+\u{E9})(<\D{2,4}B)` of flags `i` on `<bbbB`
judged_4_24 : matches (cat (cat (lookaround (look true true 0 0)
    (cat (char 233) (cat (loop_1_char_body (times 1 None true) (char_set (75 ∷ 107 ∷ [])))
    (cat (loop_1_char_body (times 3 (Some 3) false) (bracket (in_brackets false ((0, 47) ∷ (58, 1114111) ∷ []))))
    end_of_cat)))) (cat (capture_group 0 []
    (cat (char 60) (cat (loop_1_char_body (times 2 (Some 4) true)
    (bracket (in_brackets false ((0, 47) ∷ (58, 1114111) ∷ []))))
    (cat (char_set (66 ∷ 98 ∷ [])) end_of_cat)))) end_of_cat)) (cat goal end_of_cat))
    (utf8_text (60 ∷ 98 ∷ 98 ∷ 98 ∷ 66 ∷ []) false) 0 ≡ (found 0 5 (Some (0, 5) ∷ []) ∷ [])
unfolding matches
judged_4_24 = refl

-- `\u{A}(.\d\x31)*?.\b` of flags `m` on `\u{A}"`
judged_4_25 : matches (cat (cat (char 10) (cat (loop (times 0 None false) 0 1
    (capture_group 0 [] (cat match_any_except_line_terminator
    (cat (bracket (in_brackets false ((48, 57) ∷ []))) (cat (char 49) end_of_cat)))))
    (cat match_any_except_line_terminator (cat (word_boundary false false) end_of_cat)))) (cat goal end_of_cat))
    (utf8_text (10 ∷ 34 ∷ []) false) 0 ≡ []
unfolding matches
judged_4_25 = refl

-- `_(?:\b){2}\b|(?:k$)` on `_`
judged_4_26 : matches (cat (alt (cat (char 95) (cat
    (loop (times 2 (Some 2) true) 0 0 (cat (word_boundary false false) end_of_cat))
    (cat (word_boundary false false) end_of_cat)))
    (cat (cat (char 107) (cat (anchor end_of_line false) end_of_cat)) end_of_cat)) (cat goal end_of_cat))
    (utf8_text (95 ∷ []) false) 0 ≡ (found 0 1 [] ∷ [])
unfolding matches
judged_4_26 = refl

-- `(.{2,2}\b|[\u{20AC}k-\u{17F}\b-])(\w*?)` of flags `s` on `baaa`
judged_4_27 : matches (cat (cat (capture_group 0 []
    (alt (cat (loop_1_char_body (times 2 (Some 2) true) match_any) (cat (word_boundary false false) end_of_cat))
    (cat (bracket (in_brackets false ((8, 8) ∷ (45, 45) ∷ (107, 383) ∷ (8364, 8364) ∷ []))) end_of_cat)))
    (cat (capture_group 1 [] (cat (loop_1_char_body (times 0 None false)
    (bracket (in_brackets false ((48, 57) ∷ (65, 90) ∷ (95, 95) ∷ (97, 122) ∷ [])))) end_of_cat))
    end_of_cat)) (cat goal end_of_cat)) (utf8_text (98 ∷ 97 ∷ 97 ∷ 97 ∷ []) false)
    0 ≡ (found 2 4 (Some (2, 4) ∷ Some (4, 4) ∷ []) ∷ [])
unfolding matches
judged_4_27 = refl

-- `\w$|(?=.($\ScA|((?:\1){1}?)|\1)|$\B[\u{2029}]+)(?:\2)+?` on `a`
judged_4_28 : matches (cat (alt (cat (bracket (in_brackets false ((48, 57) ∷ (65, 90) ∷ (95, 95) ∷ (97, 122) ∷ [])))
    (cat (anchor end_of_line false) end_of_cat)) (cat
    (lookaround (look false false 0 2) (alt (cat match_any_except_line_terminator
    (cat (capture_group 0 [] (alt (cat (anchor end_of_line false)
    (cat (bracket (in_brackets false ((0, 8) ∷ (14, 31) ∷ (33, 159) ∷ (161, 5759) ∷ (5761, 8191)
    ∷ (8203, 8231) ∷ (8234, 8238) ∷ (8240, 8286) ∷ (8288, 12287) ∷ (12289, 65278) ∷ (65280, 1114111)
    ∷ []))) (cat (char 99) (cat (char 65) end_of_cat))))
    (alt (cat (capture_group 1 []
    (cat (loop (times 1 (Some 1) false) 2 2 (cat (back_ref 1 exact) end_of_cat))
    end_of_cat)) end_of_cat) (cat (back_ref 1 exact) end_of_cat)))) end_of_cat))
    (cat (anchor end_of_line false)
    (cat (word_boundary true false)
    (cat (loop_1_char_body (times 1 None true)
    (bracket (in_brackets false ((8233, 8233) ∷ [])))) end_of_cat)))))
    (cat (loop (times 1 None false) 2 2
    (cat (back_ref 2 exact) end_of_cat)) end_of_cat)))
    (cat goal end_of_cat)) (utf8_text (97 ∷ []) false)
    0 ≡ (found 0 1 (None ∷ None ∷ []) ∷ [])
unfolding matches
judged_4_28 = refl

-- `\u{D}(s*?)(?:\1)*` of flags `msu` on `\u{D}sss`
judged_4_29 : matches (cat (cat (char 13) (cat (capture_group 0 []
    (cat (loop_1_char_body (times 0 None false) (char 115)) end_of_cat))
    (cat (loop (times 0 None true) 1 1 (cat (back_ref 1 exact) end_of_cat)) end_of_cat))) (cat goal end_of_cat))
    (utf8_text (13 ∷ 115 ∷ 115 ∷ 115 ∷ []) true) 0 ≡ (found 0 1 (Some (1, 1) ∷ []) ∷ [])
unfolding matches
judged_4_29 = refl

-- `.|!{0,0}1+` of flags `s` on `11`
judged_4_30 : matches (cat (alt (cat match_any end_of_cat)
    (cat (loop_1_char_body (times 0 (Some 0) true) (char 33))
    (cat (loop_1_char_body (times 1 None true) (char 49)) end_of_cat))) (cat goal end_of_cat))
    (utf8_text (49 ∷ 49 ∷ []) false) 0 ≡ (found 0 1 [] ∷ found 1 2 [] ∷ [])
unfolding matches
judged_4_30 = refl

-- `a..` of flags `is` on `c<-aa\u{17F}\u{9}`
judged_4_31 : matches (cat (cat (char_set (65 ∷ 97 ∷ [])) (cat match_any (cat match_any end_of_cat)))
    (cat goal end_of_cat)) (utf8_text (99 ∷ 60 ∷ 45 ∷ 97 ∷ 97 ∷ 197 ∷ 191 ∷ 9 ∷ []) false) 0 ≡ (found 3 7 [] ∷ [])
unfolding matches
judged_4_31 = refl

-- `\1.{3}(?:.)([\w\u{20AC}-\u{212A}\S_-](?:)|\d*b??)` of flags `s` on `aabaacaac`
judged_4_32 : matches (cat (cat (back_ref 1 exact) (cat (loop_1_char_body (times 3 (Some 3) true) match_any)
    (cat (cat match_any end_of_cat) (cat (capture_group 0 []
    (alt (cat (bracket (in_brackets false ((0, 8) ∷ (14, 31) ∷ (33, 159) ∷ (161, 5759) ∷ (5761, 8191) ∷ (8203, 8231)
    ∷ (8234, 8238) ∷ (8240, 8286) ∷ (8288, 12287) ∷ (12289, 65278) ∷ (65280, 1114111) ∷ [])))
    (cat end_of_cat end_of_cat)) (cat (loop_1_char_body (times 0 None true)
    (bracket (in_brackets false ((48, 57) ∷ []))))
    (cat (loop_1_char_body (times 0 (Some 1) false) (char 98)) end_of_cat)))) end_of_cat))))
    (cat goal end_of_cat)) (utf8_text (97 ∷ 97 ∷ 98 ∷ 97 ∷ 97 ∷ 99 ∷ 97 ∷ 97 ∷ 99 ∷ []) false)
    0 ≡ (found 0 5 (Some (4, 5) ∷ []) ∷ found 5 9 (Some (9, 9) ∷ []) ∷ [])
unfolding matches
judged_4_32 = refl

-- `(?<n0>(^B))??\u006b*` on `k`
judged_4_33 : matches (cat (cat (loop (times 0 (Some 1) false) 0 2
    (capture_group 0 (110 ∷ 48 ∷ []) (cat (capture_group 1 []
    (cat (anchor start_of_line false) (cat (char 66) end_of_cat))) end_of_cat)))
    (cat (loop_1_char_body (times 0 None true) (char 107)) end_of_cat)) (cat goal end_of_cat))
    (utf8_text (107 ∷ []) false) 0 ≡ (found 0 1 (None ∷ None ∷ []) ∷ found 1 1 (None ∷ None ∷ []) ∷ [])
unfolding matches
judged_4_33 = refl

-- `(.)$A{2,2}` on `abbcc`
judged_4_34 : matches (cat (cat (capture_group 0 [] (cat match_any_except_line_terminator end_of_cat))
    (cat (anchor end_of_line false) (cat (loop_1_char_body (times 2 (Some 2) true) (char 65)) end_of_cat)))
    (cat goal end_of_cat)) (utf8_text (97 ∷ 98 ∷ 98 ∷ 99 ∷ 99 ∷ []) false) 0 ≡ []
unfolding matches
judged_4_34 = refl

-- `(?:[]*^|\1)\u3000$|.(^[^a\uFEFF])??` of flags `mi` on `ab`
judged_4_35 : matches (cat (alt (cat (alt (cat (loop_1_char_body (times 0 None true) (bracket (in_brackets false [])))
    (cat (anchor start_of_line true) end_of_cat)) (cat (back_ref 1 folded) end_of_cat))
    (cat (char 12288) (cat (anchor end_of_line true) end_of_cat)))
    (cat match_any_except_line_terminator (cat
    (loop (times 0 (Some 1) false) 0 1 (capture_group 0 []
    (cat (anchor start_of_line true)
    (cat (bracket (in_brackets true ((65, 65) ∷ (97, 97) ∷ (65279, 65279) ∷ []))) end_of_cat))))
    end_of_cat))) (cat goal end_of_cat)) (utf8_text (97 ∷ 98 ∷ []) false)
    0 ≡ (found 0 1 (None ∷ []) ∷ found 1 2 (None ∷ []) ∷ [])
unfolding matches
judged_4_35 = refl

-- `aa` on `aa`
judged_4_36 : matches (cat (cat (char 97) (cat (char 97) end_of_cat)) (cat goal end_of_cat))
    (utf8_text (97 ∷ 97 ∷ []) false) 0 ≡ (found 0 2 [] ∷ [])
unfolding matches
judged_4_36 = refl

-- `a??` of flags `miu` on ``
judged_4_37 : matches (cat (cat (loop_1_char_body (times 0 (Some 1) false) (char_set (65 ∷ 97 ∷ []))) end_of_cat)
    (cat goal end_of_cat)) (utf8_text [] true) 0 ≡ (found 0 0 [] ∷ [])
unfolding matches
judged_4_37 = refl

-- `\ba{2,2}a|c\u{17F}(?=a?.{0,}/*?^|\u000A.*)` of flags `s` on `c\u{17F}`
judged_4_38 : matches (cat (alt (cat (word_boundary false false)
    (cat (loop_1_char_body (times 2 (Some 2) true) (char 97)) (cat (char 97) end_of_cat)))
    (cat (char 99) (cat (char 383) (cat (lookaround (look false false 0 0)
    (alt (cat (loop_1_char_body (times 0 (Some 1) true) (char 97))
    (cat (loop_1_char_body (times 0 None true) match_any)
    (cat (loop_1_char_body (times 0 None false) (char 47))
    (cat (anchor start_of_line false) end_of_cat))))
    (cat (char 10) (cat (loop_1_char_body (times 0 None true) match_any) end_of_cat))))
    end_of_cat)))) (cat goal end_of_cat)) (utf8_text (99 ∷ 197 ∷ 191 ∷ []) false) 0 ≡ []
unfolding matches
judged_4_38 = refl

-- `S[^\w\d-]|x.|[!-\x30\u2029\u003Cc]` on `Sa`
judged_4_39 : matches (cat (alt (cat (char 83) (cat
    (bracket (in_brackets true ((45, 45) ∷ (48, 57) ∷ (65, 90) ∷ (95, 95) ∷ (97, 122) ∷ []))) end_of_cat))
    (alt (cat (char 120) (cat match_any_except_line_terminator end_of_cat))
    (cat (bracket (in_brackets false ((33, 48) ∷ (60, 60) ∷ (99, 99) ∷ (8233, 8233) ∷ []))) end_of_cat)))
    (cat goal end_of_cat)) (utf8_text (83 ∷ 97 ∷ []) false) 0 ≡ []
unfolding matches
judged_4_39 = refl

-- `(?=(?=aa|\D{0,1}?)_)\u{17F}??\B` on `\u{17F}_\u{17F}`
judged_4_40 : matches (cat (cat (lookaround (look false false 0 0)
    (cat (lookaround (look false false 0 0) (alt (cat (char 97) (cat (char 97) end_of_cat))
    (cat (loop_1_char_body (times 0 (Some 1) false) (bracket (in_brackets false ((0, 47) ∷ (58, 1114111) ∷ []))))
    end_of_cat))) (cat (char 95) end_of_cat)))
    (cat (loop_1_char_body (times 0 (Some 1) false) (char 383))
    (cat (word_boundary true false) end_of_cat))) (cat goal end_of_cat))
    (utf8_text (197 ∷ 191 ∷ 95 ∷ 197 ∷ 191 ∷ []) false) 0 ≡ []
unfolding matches
judged_4_40 = refl

-- `\D` of flags `s` on `a\u{D}A`
judged_4_41 : matches (cat (cat (bracket (in_brackets false ((0, 47) ∷ (58, 1114111) ∷ []))) end_of_cat)
    (cat goal end_of_cat)) (utf8_text (97 ∷ 13 ∷ 65 ∷ []) false) 0 ≡ (found 0 1 [] ∷ found 1 2 [] ∷ found 2 3 [] ∷ [])
unfolding matches
judged_4_41 = refl

-- `(?<n0>(x)*([\u2029\s!-\u{E9}]\D_)*?)B[^c}]*` of flags `ms` on `K x\u{2029}b_Bac`
judged_4_42 : matches (cat (cat (capture_group 0 (110 ∷ 48 ∷ [])
    (cat (loop (times 0 None true) 1 2 (capture_group 1 [] (cat (char 120) end_of_cat)))
    (cat (loop (times 0 None false) 2 3 (capture_group 2 []
    (cat (bracket (in_brackets false ((9, 13) ∷ (32, 233) ∷ (5760, 5760) ∷ (8192, 8202) ∷ (8232, 8233)
    ∷ (8239, 8239) ∷ (8287, 8287) ∷ (12288, 12288) ∷ (65279, 65279) ∷ [])))
    (cat (bracket (in_brackets false ((0, 47) ∷ (58, 1114111) ∷ []))) (cat (char 95) end_of_cat)))))
    end_of_cat))) (cat (char 66)
    (cat (loop_1_char_body (times 0 None true)
    (bracket (in_brackets true ((99, 99) ∷ (125, 125) ∷ [])))) end_of_cat)))
    (cat goal end_of_cat))
    (utf8_text (75 ∷ 32 ∷ 120 ∷ 226 ∷ 128 ∷ 169 ∷ 98 ∷ 95 ∷ 66 ∷ 97 ∷ 99 ∷ [])
    false) 0 ≡ (found 2 10 (Some (2, 8) ∷ Some (2, 3) ∷ Some (3, 8) ∷ []) ∷ [])
unfolding matches
judged_4_42 = refl

-- `(\u005f\d\w)S(?:(a+?\u{2029}\u{63}){0,2}?\x53??(\v\w*?(?=)|(?:\1)(?:.)\3){2,2})+` of flags `isu` on `b`
judged_4_43 : matches (cat (cat (capture_group 0 []
    (cat (char 95) (cat (bracket (in_brackets false ((48, 57) ∷ [])))
    (cat (bracket (in_brackets false ((48, 57) ∷ (65, 90) ∷ (95, 95) ∷ (97, 122) ∷ (383, 383) ∷ (8490, 8490) ∷ [])))
    end_of_cat)))) (cat (char_set (83 ∷ 115 ∷ 383 ∷ []))
    (cat (loop (times 1 None true) 1 3 (cat
    (loop (times 0 (Some 2) false) 1 2
    (capture_group 1 [] (cat (loop_1_char_body (times 1 None false) (char_set (65 ∷ 97 ∷ [])))
    (cat (char 8233) (cat (char_set (67 ∷ 99 ∷ [])) end_of_cat)))))
    (cat (loop_1_char_body (times 0 (Some 1) false) (char_set (83 ∷ 115 ∷ 383 ∷ [])))
    (cat (loop (times 2 (Some 2) true) 2 3
    (capture_group 2 [] (alt
    (cat (char 11) (cat (loop_1_char_body (times 0 None false)
    (bracket (in_brackets false
    ((48, 57) ∷ (65, 90) ∷ (95, 95) ∷ (97, 122) ∷ (383, 383)
    ∷ (8490, 8490) ∷ []))))
    (cat (lookaround (look false false 3 3) end_of_cat)
    end_of_cat))) (cat (cat (back_ref 1 folded) end_of_cat)
    (cat (cat match_any end_of_cat)
    (cat (back_ref 3 folded) end_of_cat))))))
    end_of_cat)))) end_of_cat)))
    (cat goal end_of_cat))
    (utf8_text (98 ∷ []) true) 0 ≡ []
unfolding matches
judged_4_43 = refl

-- `[/k-~]{0,1}\u{2029}b` of flags `mis` on `k\u{2029}B/\u{2029}b`
judged_4_44 : matches (cat (cat (loop_1_char_body (times 0 (Some 1) true)
    (bracket (in_brackets false ((47, 47) ∷ (75, 90) ∷ (107, 126) ∷ []))))
    (cat (char 8233) (cat (char_set (66 ∷ 98 ∷ [])) end_of_cat))) (cat goal end_of_cat))
    (utf8_text (107 ∷ 226 ∷ 128 ∷ 169 ∷ 66 ∷ 47 ∷ 226 ∷ 128 ∷ 169 ∷ 98 ∷ []) false)
    0 ≡ (found 0 5 [] ∷ found 5 10 [] ∷ [])
unfolding matches
judged_4_44 = refl

-- `a.{1,2}` on `caaaaa`
judged_4_45 : matches (cat (cat (char 97) (cat (loop_1_char_body (times 1 (Some 2) true)
    match_any_except_line_terminator) end_of_cat)) (cat goal end_of_cat))
    (utf8_text (99 ∷ 97 ∷ 97 ∷ 97 ∷ 97 ∷ 97 ∷ []) false) 0 ≡ (found 1 4 [] ∷ found 4 6 [] ∷ [])
unfolding matches
judged_4_45 = refl

-- `\u005f[b-~]` of flags `msu` on `_~`
judged_4_46 : matches (cat (cat (char 95) (cat (bracket (in_brackets false ((98, 126) ∷ []))) end_of_cat))
    (cat goal end_of_cat)) (utf8_text (95 ∷ 126 ∷ []) true) 0 ≡ (found 0 2 [] ∷ [])
unfolding matches
judged_4_46 = refl

-- `\u{A0}\u{E9}{0,0}?(.[.]\s{1,}(?:_\w+)+)` on `\u{A0}/.   _aa_aaa`
judged_4_47 : matches (cat (cat (char 160) (cat (loop_1_char_body (times 0 (Some 0) false) (char 233))
    (cat (capture_group 0 [] (cat match_any_except_line_terminator
    (cat (bracket (in_brackets false ((46, 46) ∷ [])))
    (cat (loop_1_char_body (times 1 None true)
    (bracket (in_brackets false ((9, 13) ∷ (32, 32) ∷ (160, 160) ∷ (5760, 5760) ∷ (8192, 8202)
    ∷ (8232, 8233) ∷ (8239, 8239) ∷ (8287, 8287) ∷ (12288, 12288) ∷ (65279, 65279) ∷ []))))
    (cat (loop (times 1 None true) 1 1
    (cat (char 95) (cat (loop_1_char_body (times 1 None true)
    (bracket (in_brackets false ((48, 57) ∷ (65, 90) ∷ (95, 95) ∷ (97, 122) ∷ []))))
    end_of_cat))) end_of_cat))))) end_of_cat))) (cat goal end_of_cat))
    (utf8_text (194 ∷ 160 ∷ 47 ∷ 46 ∷ 32 ∷ 32 ∷ 32 ∷ 95 ∷ 97 ∷ 97 ∷ 95 ∷ 97 ∷ 97
    ∷ 97 ∷ []) false) 0 ≡ (found 0 14 (Some (2, 14) ∷ []) ∷ [])
unfolding matches
judged_4_47 = refl

-- `(\d{1,2}((?<=\ra))|(?<n0>\B|c(?=B(?:\1)bS)\1(?<=.?))\1|\u{FEFF}(?<=,)S)\k<n0>*` on `\u{FEFF}S`
judged_4_48 : matches (cat (cat (capture_group 0 []
    (alt (cat (loop_1_char_body (times 1 (Some 2) true) (bracket (in_brackets false ((48, 57) ∷ []))))
    (cat (capture_group 1 [] (cat (lookaround (look false true 2 2) (cat (char 97) (cat (char 13) end_of_cat)))
    end_of_cat)) end_of_cat)) (alt (cat (capture_group 2 (110 ∷ 48 ∷ [])
    (alt (cat (word_boundary true false) end_of_cat)
    (cat (char 99) (cat (lookaround (look false false 3 3)
    (cat (char 66) (cat (cat (back_ref 1 exact) end_of_cat)
    (cat (char 98) (cat (char 83) end_of_cat)))))
    (cat (back_ref 1 exact)
    (cat (lookaround (look false true 3 3)
    (cat (loop_1_char_body (times 0 (Some 1) true) match_any_except_line_terminator)
    end_of_cat)) end_of_cat)))))) (cat (back_ref 1 exact) end_of_cat))
    (cat (char 65279) (cat
    (lookaround (look false true 3 3) (cat (char 44) end_of_cat))
    (cat (char 83) end_of_cat))))))
    (cat (loop (times 0 None true) 3 3 (back_ref 3 exact))
    end_of_cat)) (cat goal end_of_cat))
    (utf8_text (239 ∷ 187 ∷ 191 ∷ 83 ∷ []) false)
    0 ≡ (found 0 0 (Some (0, 0) ∷ None ∷ Some
    (0, 0) ∷ []) ∷ [])
unfolding matches
judged_4_48 = refl

-- `\u{0021}\u20ac` of flags `mu` on `!\u{20AC}`
judged_4_49 : matches (cat (cat (char 33) (cat (char 8364) end_of_cat)) (cat goal end_of_cat))
    (utf8_text (33 ∷ 226 ∷ 130 ∷ 172 ∷ []) true) 0 ≡ (found 0 4 [] ∷ [])
unfolding matches
judged_4_49 = refl

-- `\x62` of flags `is` on `B,`
judged_4_50 : matches (cat (cat (char_set (66 ∷ 98 ∷ [])) end_of_cat) (cat goal end_of_cat))
    (utf8_text (66 ∷ 44 ∷ []) false) 0 ≡ (found 0 1 [] ∷ [])
unfolding matches
judged_4_50 = refl

-- `"(?<n0>.\k<n0>?)(?<!\B$(?:\\u{20AC}?){1,}?)` of flags `m` on `"\u{D}`
judged_4_51 : matches (cat (cat (char 34) (cat (capture_group 0 (110 ∷ 48 ∷ [])
    (cat match_any_except_line_terminator (cat (loop (times 0 (Some 1) true) 1 1 (back_ref 1 exact)) end_of_cat)))
    (cat (lookaround (look true true 1 1) (cat (loop (times 1 None false) 1 1
    (cat (loop_1_char_body (times 0 (Some 1) true) (char 8364)) end_of_cat))
    (cat (anchor end_of_line true) (cat (word_boundary true false) end_of_cat)))) end_of_cat)))
    (cat goal end_of_cat)) (utf8_text (34 ∷ 13 ∷ []) false) 0 ≡ []
unfolding matches
judged_4_51 = refl
