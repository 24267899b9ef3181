-- Patterns on texts, part 5, with the results of JavaScript's V8: the same flags, and its indices as
-- byte offsets. The trees are those of the patterns, optimized.
use Rattle.std.specs.Prelude.{◌≡◌, [], ◌∷◌, Some, None, refl, true, false}
use Rattle.regex_meaning.specs.Tree.{goal, char, char_set, cat, end_of_cat, alt, bracket, match_any_except_line_terminator, word_boundary, capture_group, back_ref, exact, folded, lookaround, loop}
use Rattle.regex_meaning.specs.Tree.{loop_1_char_body, match_any}
use Rattle.regex_meaning.specs.Text.{utf8_text}
use Rattle.test_meaning.specs.Computing.{found, matches, times, in_brackets, look}

-- `(?<=b?a)|\B\u{E9}+\W.+?|` of flags `is` on `\u{E9}\u{E9} bb,`
judged_5_01 : matches (cat (alt (cat (lookaround (look false true 0 0)
    (cat (char_set (65 ∷ 97 ∷ [])) (cat (loop_1_char_body (times 0 (Some 1) true) (char_set (66 ∷ 98 ∷ [])))
    end_of_cat))) end_of_cat) (alt (cat (word_boundary true false)
    (cat (loop_1_char_body (times 1 None true) (char 233))
    (cat (bracket (in_brackets false ((0, 47) ∷ (58, 64) ∷ (91, 94) ∷ (96, 96) ∷ (123, 1114111) ∷ [])))
    (cat (loop_1_char_body (times 1 None false) match_any) end_of_cat)))) end_of_cat))
    (cat goal end_of_cat)) (utf8_text (195 ∷ 169 ∷ 195 ∷ 169 ∷ 32 ∷ 98 ∷ 98 ∷ 44 ∷ []) false)
    0 ≡ (found 0 6 [] ∷ found 6 6 [] ∷ found 7 7 [] ∷ found 8 8 [] ∷ [])
unfolding matches
judged_5_01 = refl

-- `\s?s` of flags `mi` on ` s`
judged_5_02 : matches (cat (cat (loop_1_char_body (times 0 (Some 1) true)
    (bracket (in_brackets false ((9, 13) ∷ (32, 32) ∷ (160, 160) ∷ (5760, 5760) ∷ (8192, 8202) ∷ (8232, 8233)
    ∷ (8239, 8239) ∷ (8287, 8287) ∷ (12288, 12288) ∷ (65279, 65279) ∷ []))))
    (cat (char_set (83 ∷ 115 ∷ [])) end_of_cat)) (cat goal end_of_cat)) (utf8_text (32 ∷ 115 ∷ []) false)
    0 ≡ (found 0 2 [] ∷ [])
unfolding matches
judged_5_02 = refl

-- `[^\x6b\u{1F389}](?<!\B)` of flags `su` on `baaaaa`
judged_5_03 : matches (cat (cat (bracket (in_brackets true ((107, 107) ∷ (127881, 127881) ∷ [])))
    (cat (lookaround (look true true 0 0) (cat (word_boundary true false) end_of_cat)) end_of_cat))
    (cat goal end_of_cat)) (utf8_text (98 ∷ 97 ∷ 97 ∷ 97 ∷ 97 ∷ 97 ∷ []) true) 0 ≡ (found 5 6 [] ∷ [])
unfolding matches
judged_5_03 = refl

-- `(\s(?:\S?\u{FEFF}){0,1}\1{2,}?)(b|(?<n0>(?=.*)|\u{E9}+\k<n0>)\s{2,})|\r.|\1k` of flags `su` on ` a  `
judged_5_04 : matches (cat (alt (cat (capture_group 0 []
    (cat (bracket (in_brackets false ((9, 13) ∷ (32, 32) ∷ (160, 160) ∷ (5760, 5760) ∷ (8192, 8202) ∷ (8232, 8233)
    ∷ (8239, 8239) ∷ (8287, 8287) ∷ (12288, 12288) ∷ (65279, 65279) ∷ [])))
    (cat (loop (times 0 (Some 1) true) 1 1 (cat
    (loop_1_char_body (times 0 (Some 1) true)
    (bracket (in_brackets false ((0, 8) ∷ (14, 31) ∷ (33, 159) ∷ (161, 5759) ∷ (5761, 8191)
    ∷ (8203, 8231) ∷ (8234, 8238) ∷ (8240, 8286) ∷ (8288, 12287) ∷ (12289, 65278) ∷ (65280, 1114111)
    ∷ [])))) (cat (char 65279) end_of_cat)))
    (cat (loop (times 2 None false) 1 1 (back_ref 1 exact)) end_of_cat))))
    (cat (capture_group 1 []
    (alt (cat (char 98) end_of_cat)
    (cat (capture_group 2 (110 ∷ 48 ∷ [])
    (alt (cat (lookaround (look false false 3 3)
    (cat (loop_1_char_body (times 0 None true) match_any) end_of_cat))
    end_of_cat) (cat (loop_1_char_body (times 1 None true)
    (char 233)) (cat (back_ref 3 exact) end_of_cat))))
    (cat (loop_1_char_body (times 2 None true)
    (bracket (in_brackets false
    ((9, 13) ∷ (32, 32) ∷ (160, 160) ∷ (5760, 5760)
    ∷ (8192, 8202) ∷ (8232, 8233) ∷ (8239, 8239)
    ∷ (8287, 8287) ∷ (12288, 12288)
    ∷ (65279, 65279) ∷ []))))
    end_of_cat)))) end_of_cat))
    (alt (cat (char 13) (cat
    match_any end_of_cat))
    (cat (back_ref 1 exact) (cat (char 107) end_of_cat)))) (cat goal end_of_cat))
    (utf8_text (32 ∷ 97 ∷ 32 ∷ 32 ∷ []) true) 0 ≡ []
unfolding matches
judged_5_04 = refl

-- `[\u{1F389}-\ud83d\ude00k]` of flags `iu` on ` 0K\u{1F389} \u{212A}`
judged_5_05 : matches (cat (cat (bracket (in_brackets false
    ((75, 75) ∷ (107, 107) ∷ (8490, 8490) ∷ (127881, 128512) ∷ []))) end_of_cat) (cat goal end_of_cat))
    (utf8_text (32 ∷ 48 ∷ 75 ∷ 240 ∷ 159 ∷ 142 ∷ 137 ∷ 32 ∷ 226 ∷ 132 ∷ 170 ∷ []) true)
    0 ≡ (found 2 3 [] ∷ found 3 7 [] ∷ found 8 11 [] ∷ [])
unfolding matches
judged_5_05 = refl

-- `(?<=[^b~-\u{20AC}<\w])[\u005a-\u{212A}<\u{A}]` of flags `siu` on `\u{E9}\u{1F389}\u{20AC}AKs `
judged_5_06 : matches (cat (cat (lookaround (look false true 0 0)
    (cat (bracket (in_brackets true ((48, 57) ∷ (60, 60) ∷ (65, 90) ∷ (95, 95) ∷ (97, 122) ∷ (126, 8364) ∷ (8490, 8490)
    ∷ []))) end_of_cat)) (cat (bracket (in_brackets false ((10, 10) ∷ (60, 60) ∷ (65, 8490) ∷ []))) end_of_cat))
    (cat goal end_of_cat)) (utf8_text (195 ∷ 169 ∷ 240 ∷ 159 ∷ 142 ∷ 137 ∷ 226 ∷ 130 ∷ 172 ∷ 65 ∷ 75 ∷ 115 ∷ 32
    ∷ []) true) 0 ≡ (found 6 9 [] ∷ [])
unfolding matches
judged_5_06 = refl

-- `\W` of flags `u` on ``
judged_5_07 : matches (cat (cat (bracket (in_brackets false
    ((0, 47) ∷ (58, 64) ∷ (91, 94) ∷ (96, 96) ∷ (123, 1114111) ∷ []))) end_of_cat) (cat goal end_of_cat))
    (utf8_text [] true) 0 ≡ []
unfolding matches
judged_5_07 = refl

-- `_+` of flags `iu` on `z\u{212A}S`
judged_5_08 : matches (cat (cat (loop_1_char_body (times 1 None true) (char 95)) end_of_cat) (cat goal end_of_cat))
    (utf8_text (122 ∷ 226 ∷ 132 ∷ 170 ∷ 83 ∷ []) true) 0 ≡ []
unfolding matches
judged_5_08 = refl

-- `[A-\u{20AC}\S\u0021-\u{212A}]` of flags `u` on `_K- a\u{20AC}\u{212A}`
judged_5_09 : matches (cat (cat (bracket (in_brackets false
    ((0, 8) ∷ (14, 31) ∷ (33, 12287) ∷ (12289, 65278) ∷ (65280, 1114111) ∷ []))) end_of_cat) (cat goal end_of_cat))
    (utf8_text (95 ∷ 75 ∷ 45 ∷ 32 ∷ 97 ∷ 226 ∷ 130 ∷ 172 ∷ 226 ∷ 132 ∷ 170 ∷ []) true)
    0 ≡ (found 0 1 [] ∷ found 1 2 [] ∷ found 2 3 [] ∷ found 4 5 [] ∷ found 5 8 [] ∷ found 8 11 [] ∷ [])
unfolding matches
judged_5_09 = refl

-- `([z-\xE9a\b])\1` on `Z`
judged_5_10 : matches (cat (cat (capture_group 0 []
    (cat (bracket (in_brackets false ((8, 8) ∷ (97, 97) ∷ (122, 233) ∷ []))) end_of_cat))
    (cat (back_ref 1 exact) end_of_cat)) (cat goal end_of_cat)) (utf8_text (90 ∷ []) false) 0 ≡ []
unfolding matches
judged_5_10 = refl

-- `(?<=(.)\1)` of flags `iu` on `sz\u{1F600}_zak`
judged_5_11 : matches (cat (cat (lookaround (look false true 0 1)
    (cat (back_ref 1 folded) (cat (capture_group 0 [] (cat match_any_except_line_terminator end_of_cat)) end_of_cat)))
    end_of_cat) (cat goal end_of_cat)) (utf8_text (115 ∷ 122 ∷ 240 ∷ 159 ∷ 152 ∷ 128 ∷ 95 ∷ 122 ∷ 97 ∷ 107 ∷ [])
    true) 0 ≡ (found 1 1 (Some (0, 1) ∷ []) ∷ found 2 2 (Some (1, 2) ∷ []) ∷ found 6 6
    (Some (2, 6) ∷ []) ∷ found 7 7 (Some (6, 7) ∷ []) ∷ found 8 8 (Some (7, 8) ∷ []) ∷ found 9 9
    (Some (8, 9) ∷ []) ∷ found 10 10 (Some (9, 10) ∷ []) ∷ [])
unfolding matches
judged_5_11 = refl

-- `(?<=[\d0-0\w])[^c-~\u{D}-]` of flags `iu` on `aSs`
judged_5_12 : matches (cat (cat (lookaround (look false true 0 0)
    (cat (bracket (in_brackets false ((48, 57) ∷ (65, 90) ∷ (95, 95) ∷ (97, 122) ∷ (383, 383) ∷ (8490, 8490) ∷ [])))
    end_of_cat)) (cat (bracket (in_brackets true
    ((13, 13) ∷ (45, 45) ∷ (67, 90) ∷ (99, 126) ∷ (383, 383) ∷ (8490, 8490) ∷ []))) end_of_cat))
    (cat goal end_of_cat)) (utf8_text (97 ∷ 83 ∷ 115 ∷ []) true) 0 ≡ []
unfolding matches
judged_5_12 = refl

-- `([_\s])\1` of flags `u` on `a00-\u{212A}Z`
judged_5_13 : matches (cat (cat (capture_group 0 []
    (cat (bracket (in_brackets false ((9, 13) ∷ (32, 32) ∷ (95, 95) ∷ (160, 160) ∷ (5760, 5760) ∷ (8192, 8202)
    ∷ (8232, 8233) ∷ (8239, 8239) ∷ (8287, 8287) ∷ (12288, 12288) ∷ (65279, 65279) ∷ []))) end_of_cat))
    (cat (back_ref 1 exact) end_of_cat)) (cat goal end_of_cat))
    (utf8_text (97 ∷ 48 ∷ 48 ∷ 45 ∷ 226 ∷ 132 ∷ 170 ∷ 90 ∷ []) true) 0 ≡ []
unfolding matches
judged_5_13 = refl

-- `(?<=[\w\u0041\w])[^\W]` of flags `si` on `\u{17F}szkkAk `
judged_5_14 : matches (cat (cat (lookaround (look false true 0 0)
    (cat (bracket (in_brackets false ((48, 57) ∷ (65, 90) ∷ (95, 95) ∷ (97, 122) ∷ []))) end_of_cat))
    (cat (bracket (in_brackets true ((0, 47) ∷ (58, 64) ∷ (91, 94) ∷ (96, 96) ∷ (123, 1114111) ∷ []))) end_of_cat))
    (cat goal end_of_cat)) (utf8_text (197 ∷ 191 ∷ 115 ∷ 122 ∷ 107 ∷ 107 ∷ 65 ∷ 107 ∷ 32 ∷ []) false)
    0 ≡ (found 3 4 [] ∷ found 4 5 [] ∷ found 5 6 [] ∷ found 6 7 [] ∷ found 7 8 [] ∷ [])
unfolding matches
judged_5_14 = refl

-- `[^Z-\x63]*` of flags `iu` on `\u{20AC}`
judged_5_15 : matches (cat (cat (loop_1_char_body (times 0 None true)
    (bracket (in_brackets true ((65, 67) ∷ (90, 99) ∷ (122, 122) ∷ [])))) end_of_cat) (cat goal end_of_cat))
    (utf8_text (226 ∷ 130 ∷ 172 ∷ []) true) 0 ≡ (found 0 3 [] ∷ found 3 3 [] ∷ [])
unfolding matches
judged_5_15 = refl

-- `(?<=(.)\1)` of flags `siu` on `_`
judged_5_16 : matches (cat (cat (lookaround (look false true 0 1)
    (cat (back_ref 1 folded) (cat (capture_group 0 [] (cat match_any end_of_cat)) end_of_cat))) end_of_cat)
    (cat goal end_of_cat)) (utf8_text (95 ∷ []) true) 0 ≡ (found 1 1 (Some (0, 1) ∷ []) ∷ [])
unfolding matches
judged_5_16 = refl

-- `[a-\u{7a}!]` of flags `miu` on `\u{17F} 0Ak`
judged_5_17 : matches (cat (cat (bracket (in_brackets false
    ((33, 33) ∷ (65, 90) ∷ (97, 122) ∷ (383, 383) ∷ (8490, 8490) ∷ []))) end_of_cat) (cat goal end_of_cat))
    (utf8_text (197 ∷ 191 ∷ 32 ∷ 48 ∷ 65 ∷ 107 ∷ []) true) 0 ≡ (found 0 2 [] ∷ found 4 5 [] ∷ found 5 6 [] ∷ [])
unfolding matches
judged_5_17 = refl

-- `[\u{A}]` of flags `i` on `\u{A}zz`
judged_5_18 : matches (cat (cat (bracket (in_brackets false ((10, 10) ∷ []))) end_of_cat) (cat goal end_of_cat))
    (utf8_text (10 ∷ 122 ∷ 122 ∷ []) false) 0 ≡ (found 0 1 [] ∷ [])
unfolding matches
judged_5_18 = refl

-- `-+?` of flags `siu` on `-\u{A} \u{20AC}\u{1F600}\u{17F}`
judged_5_19 : matches (cat (cat (loop_1_char_body (times 1 None false) (char 45)) end_of_cat) (cat goal end_of_cat))
    (utf8_text (45 ∷ 10 ∷ 32 ∷ 226 ∷ 130 ∷ 172 ∷ 240 ∷ 159 ∷ 152 ∷ 128 ∷ 197 ∷ 191 ∷ []) true) 0 ≡ (found 0 1 [] ∷ [])
unfolding matches
judged_5_19 = refl

-- `\B.` of flags `i` on `z `
judged_5_20 : matches (cat (cat (word_boundary true false) (cat match_any_except_line_terminator end_of_cat))
    (cat goal end_of_cat)) (utf8_text (122 ∷ 32 ∷ []) false) 0 ≡ []
unfolding matches
judged_5_20 = refl

-- `[^\ba-\x7e]` of flags `i` on `\u{212A}\u{20AC}\u{17F}_\u{E9}`
judged_5_21 : matches (cat (cat (bracket (in_brackets true ((8, 8) ∷ (65, 90) ∷ (97, 126) ∷ []))) end_of_cat)
    (cat goal end_of_cat)) (utf8_text (226 ∷ 132 ∷ 170 ∷ 226 ∷ 130 ∷ 172 ∷ 197 ∷ 191 ∷ 95 ∷ 195 ∷ 169 ∷ []) false)
    0 ≡ (found 0 3 [] ∷ found 3 6 [] ∷ found 6 8 [] ∷ found 8 9 [] ∷ found 9 11 [] ∷ [])
unfolding matches
judged_5_21 = refl

-- `([^ \w\u0039-a])\1` on `a\u{E9}Ss_\u{E9}K`
judged_5_22 : matches (cat (cat (capture_group 0 []
    (cat (bracket (in_brackets true ((32, 32) ∷ (48, 122) ∷ []))) end_of_cat)) (cat (back_ref 1 exact) end_of_cat))
    (cat goal end_of_cat)) (utf8_text (97 ∷ 195 ∷ 169 ∷ 83 ∷ 115 ∷ 95 ∷ 195 ∷ 169 ∷ 75 ∷ []) false) 0 ≡ []
unfolding matches
judged_5_22 = refl

-- `(?<=[!-9\d])[^s-\u{1F600}/\u{3000}/]` of flags `iu` on `\u{17F}azK-`
judged_5_23 : matches (cat (cat (lookaround (look false true 0 0)
    (cat (bracket (in_brackets false ((33, 57) ∷ []))) end_of_cat))
    (cat (bracket (in_brackets true ((47, 47) ∷ (75, 75) ∷ (83, 90) ∷ (107, 107) ∷ (115, 128512) ∷ [])))
    end_of_cat)) (cat goal end_of_cat)) (utf8_text (197 ∷ 191 ∷ 97 ∷ 122 ∷ 75 ∷ 45 ∷ []) true) 0 ≡ []
unfolding matches
judged_5_23 = refl

-- `A*` of flags `u` on `\u{A}\u{A}S\u{E9}\u{A}0`
judged_5_24 : matches (cat (cat (loop_1_char_body (times 0 None true) (char 65)) end_of_cat) (cat goal end_of_cat))
    (utf8_text (10 ∷ 10 ∷ 83 ∷ 195 ∷ 169 ∷ 10 ∷ 48 ∷ []) true)
    0 ≡ (found 0 0 [] ∷ found 1 1 [] ∷ found 2 2 [] ∷ found 3 3 [] ∷ found 5 5 [] ∷ found 6 6 [] ∷ found 7 7
    [] ∷ [])
unfolding matches
judged_5_24 = refl

-- `\s` of flags `i` on `\u{17F}k\u{212A}0KZ\u{20AC}`
judged_5_25 : matches (cat (cat (bracket (in_brackets false
    ((9, 13) ∷ (32, 32) ∷ (160, 160) ∷ (5760, 5760) ∷ (8192, 8202) ∷ (8232, 8233) ∷ (8239, 8239) ∷ (8287, 8287)
    ∷ (12288, 12288) ∷ (65279, 65279) ∷ []))) end_of_cat) (cat goal end_of_cat))
    (utf8_text (197 ∷ 191 ∷ 107 ∷ 226 ∷ 132 ∷ 170 ∷ 48 ∷ 75 ∷ 90 ∷ 226 ∷ 130 ∷ 172 ∷ []) false) 0 ≡ []
unfolding matches
judged_5_25 = refl

-- `(?<=([ks]+)\1)` of flags `i` on ``
judged_5_26 : matches (cat (cat (lookaround (look false true 0 1)
    (cat (back_ref 1 folded) (cat (capture_group 0 []
    (cat (loop_1_char_body (times 1 None true) (bracket
    (in_brackets false ((75, 75) ∷ (83, 83) ∷ (107, 107) ∷ (115, 115) ∷ [])))) end_of_cat)) end_of_cat)))
    end_of_cat) (cat goal end_of_cat)) (utf8_text [] false) 0 ≡ []
unfolding matches
judged_5_26 = refl

-- `(?<=(\u{17F}s)\1)` of flags `i` on `xb\u{E9}b\u{E9}b\u{E9}x`
judged_5_27 : matches (cat (cat (lookaround (look false true 0 1)
    (cat (back_ref 1 folded) (cat (capture_group 0 [] (cat (char_set (83 ∷ 115 ∷ [])) (cat (char 383) end_of_cat)))
    end_of_cat))) end_of_cat) (cat goal end_of_cat))
    (utf8_text (120 ∷ 98 ∷ 195 ∷ 169 ∷ 98 ∷ 195 ∷ 169 ∷ 98 ∷ 195 ∷ 169 ∷ 120 ∷ []) false) 0 ≡ []
unfolding matches
judged_5_27 = refl

-- `(?<=(\u{1F600}b|s)\1)` of flags `iu` on `x\u{1F600}b\u{1F600}b\u{1F600}b\u{1F600}Bx`
judged_5_28 : matches (cat (cat (lookaround (look false true 0 1)
    (cat (back_ref 1 folded) (cat (capture_group 0 []
    (alt (cat (char_set (66 ∷ 98 ∷ [])) (cat (char 128512) end_of_cat))
    (cat (char_set (83 ∷ 115 ∷ 383 ∷ [])) end_of_cat))) end_of_cat))) end_of_cat) (cat goal end_of_cat))
    (utf8_text (120 ∷ 240 ∷ 159 ∷ 152 ∷ 128 ∷ 98 ∷ 240 ∷ 159 ∷ 152 ∷ 128 ∷ 98 ∷ 240 ∷ 159 ∷ 152 ∷ 128 ∷ 98
    ∷ 240 ∷ 159 ∷ 152 ∷ 128 ∷ 66 ∷ 120 ∷ []) true)
    0 ≡ (found 6 6 (Some (1, 6) ∷ []) ∷ found 11 11 (Some (6, 11) ∷ []) ∷ found 16 16
    (Some (11, 16) ∷ []) ∷ found 21 21 (Some (16, 21) ∷ []) ∷ [])
unfolding matches
judged_5_28 = refl

-- `\1([ks]+)` on `\u{E9}\u{E9}\u{E9}\u{E9}`
judged_5_29 : matches (cat (cat (back_ref 1 exact) (cat
    (capture_group 0 [] (cat (loop_1_char_body (times 1 None true)
    (bracket (in_brackets false ((107, 107) ∷ (115, 115) ∷ [])))) end_of_cat)) end_of_cat)) (cat goal end_of_cat))
    (utf8_text (195 ∷ 169 ∷ 195 ∷ 169 ∷ 195 ∷ 169 ∷ 195 ∷ 169 ∷ []) false) 0 ≡ []
unfolding matches
judged_5_29 = refl

-- `()\1` of flags `i` on `x`
judged_5_30 : matches (cat (cat (capture_group 0 [] end_of_cat) (cat (back_ref 1 folded) end_of_cat))
    (cat goal end_of_cat)) (utf8_text (120 ∷ []) false)
    0 ≡ (found 0 0 (Some (0, 0) ∷ []) ∷ found 1 1 (Some (1, 1) ∷ []) ∷ [])
unfolding matches
judged_5_30 = refl

-- `(a|s)\1` of flags `iu` on `\u{212A}kx`
judged_5_31 : matches (cat (cat (capture_group 0 []
    (alt (cat (char_set (65 ∷ 97 ∷ [])) end_of_cat) (cat (char_set (83 ∷ 115 ∷ 383 ∷ [])) end_of_cat)))
    (cat (back_ref 1 folded) end_of_cat)) (cat goal end_of_cat)) (utf8_text (226 ∷ 132 ∷ 170 ∷ 107 ∷ 120 ∷ []) true)
    0 ≡ []
unfolding matches
judged_5_31 = refl

-- `(?<!(\u{212A})\1).` of flags `i` on `xbBb`
judged_5_32 : matches (cat (cat (lookaround (look true true 0 1)
    (cat (back_ref 1 folded) (cat (capture_group 0 [] (cat (char 8490) end_of_cat)) end_of_cat)))
    (cat match_any_except_line_terminator end_of_cat)) (cat goal end_of_cat))
    (utf8_text (120 ∷ 98 ∷ 66 ∷ 98 ∷ []) false)
    0 ≡ (found 0 1 (None ∷ []) ∷ found 1 2 (None ∷ []) ∷ found 2 3 (None ∷ []) ∷ found 3 4 (None ∷ []) ∷ [])
unfolding matches
judged_5_32 = refl

-- `(?:(\u{17F})\1)+` of flags `iu` on `xabAB`
judged_5_33 : matches (cat (cat (loop (times 1 None true) 0 1
    (cat (capture_group 0 [] (cat (char_set (83 ∷ 115 ∷ 383 ∷ [])) end_of_cat)) (cat (back_ref 1 folded) end_of_cat)))
    end_of_cat) (cat goal end_of_cat)) (utf8_text (120 ∷ 97 ∷ 98 ∷ 65 ∷ 66 ∷ []) true) 0 ≡ []
unfolding matches
judged_5_33 = refl

-- `(?!(.)\1).` on `\u{E9}\u{E9}`
judged_5_34 : matches (cat (cat (lookaround (look true false 0 1)
    (cat (capture_group 0 [] (cat match_any_except_line_terminator end_of_cat)) (cat (back_ref 1 exact) end_of_cat)))
    (cat match_any_except_line_terminator end_of_cat)) (cat goal end_of_cat))
    (utf8_text (195 ∷ 169 ∷ 195 ∷ 169 ∷ []) false) 0 ≡ (found 2 4 (None ∷ []) ∷ [])
unfolding matches
judged_5_34 = refl

-- `\1(\u{1F600})` of flags `iu` on `\u{1F600}\u{1F600}\u{1F600}`
judged_5_35 : matches (cat (cat (back_ref 1 folded)
    (cat (capture_group 0 [] (cat (char 128512) end_of_cat)) end_of_cat)) (cat goal end_of_cat))
    (utf8_text (240 ∷ 159 ∷ 152 ∷ 128 ∷ 240 ∷ 159 ∷ 152 ∷ 128 ∷ 240 ∷ 159 ∷ 152 ∷ 128 ∷ []) true)
    0 ≡ (found 0 4 (Some (0, 4) ∷ []) ∷ found 4 8 (Some (4, 8) ∷ []) ∷ found 8 12 (Some (8, 12) ∷ []) ∷ [])
unfolding matches
judged_5_35 = refl

-- `(.*?)\1` of flags `iu` on `<,<,<,<,x`
judged_5_36 : matches (cat (cat (capture_group 0 []
    (cat (loop_1_char_body (times 0 None false) match_any_except_line_terminator) end_of_cat))
    (cat (back_ref 1 folded) end_of_cat)) (cat goal end_of_cat))
    (utf8_text (60 ∷ 44 ∷ 60 ∷ 44 ∷ 60 ∷ 44 ∷ 60 ∷ 44 ∷ 120 ∷ []) true)
    0 ≡ (found 0 0 (Some (0, 0) ∷ []) ∷ found 1 1 (Some (1, 1) ∷ []) ∷ found 2 2 (Some (2, 2) ∷ []) ∷ found
    3 3 (Some (3, 3) ∷ []) ∷ found 4 4 (Some (4, 4) ∷ []) ∷ found 5 5 (Some (5, 5) ∷ []) ∷ found 6 6
    (Some (6, 6) ∷ []) ∷ found 7 7 (Some (7, 7) ∷ []) ∷ found 8 8 (Some (8, 8) ∷ []) ∷ found 9 9
    (Some (9, 9) ∷ []) ∷ [])
unfolding matches
judged_5_36 = refl

-- `(.+)\1` of flags `i` on `x,a,a,A,ax`
judged_5_37 : matches (cat (cat (capture_group 0 []
    (cat (loop_1_char_body (times 1 None true) match_any_except_line_terminator) end_of_cat))
    (cat (back_ref 1 folded) end_of_cat)) (cat goal end_of_cat))
    (utf8_text (120 ∷ 44 ∷ 97 ∷ 44 ∷ 97 ∷ 44 ∷ 65 ∷ 44 ∷ 97 ∷ 120 ∷ []) false)
    0 ≡ (found 1 9 (Some (1, 5) ∷ []) ∷ [])
unfolding matches
judged_5_37 = refl

-- `(?<=([ks]+)\1)` on `xsskssksskssk`
judged_5_38 : matches (cat (cat (lookaround (look false true 0 1)
    (cat (back_ref 1 exact) (cat (capture_group 0 []
    (cat (loop_1_char_body (times 1 None true) (bracket (in_brackets false ((107, 107) ∷ (115, 115) ∷ []))))
    end_of_cat)) end_of_cat))) end_of_cat) (cat goal end_of_cat))
    (utf8_text (120 ∷ 115 ∷ 115 ∷ 107 ∷ 115 ∷ 115 ∷ 107 ∷ 115 ∷ 115 ∷ 107 ∷ 115 ∷ 115 ∷ 107 ∷ []) false)
    0 ≡ (found 2 2 (Some (1, 2) ∷ []) ∷ found 3 3 (Some (1, 3) ∷ []) ∷ found 4 4
    (Some (1, 4) ∷ []) ∷ found 5 5 (Some (1, 5) ∷ []) ∷ found 6 6 (Some (1, 6) ∷ []) ∷ found 7 7
    (Some (1, 7) ∷ []) ∷ found 8 8 (Some (1, 8) ∷ []) ∷ found 9 9 (Some (1, 9) ∷ []) ∷ found 10
    10 (Some (1, 10) ∷ []) ∷ found 11 11 (Some (1, 11) ∷ []) ∷ found 12 12
    (Some (1, 12) ∷ []) ∷ found 13 13 (Some (1, 13) ∷ []) ∷ [])
unfolding matches
judged_5_38 = refl

-- `[ab]casssc\u{E9}a` on `casssc\u{E9}a`
judged_5_39 : matches (cat (cat (bracket (in_brackets false ((97, 98) ∷ [])))
    (cat (char 99) (cat (char 97) (cat (char 115) (cat (char 115)
    (cat (char 115) (cat (char 99) (cat (char 233) (cat (char 97) end_of_cat))))))))) (cat goal end_of_cat))
    (utf8_text (99 ∷ 97 ∷ 115 ∷ 115 ∷ 115 ∷ 99 ∷ 195 ∷ 169 ∷ 97 ∷ []) false) 0 ≡ []
unfolding matches
judged_5_39 = refl

-- `(?:|aa\u{20AC}s)\u{1F600}\u{1F600}Ksb\u{20AC}\u{E9}` of flags `u` on `cs\u{E9}\u{1F600}aa\u{20AC}saa\u{20AC}saa\u{20AC}s`
judged_5_40 : matches (cat (cat (alt end_of_cat (cat (char 97)
    (cat (char 97) (cat (char 8364) (cat (char 115) end_of_cat)))))
    (cat (char 128512) (cat (char 128512) (cat (char 75)
    (cat (char 115) (cat (char 98) (cat (char 8364) (cat (char 233) end_of_cat)))))))) (cat goal end_of_cat))
    (utf8_text (99 ∷ 115 ∷ 195 ∷ 169 ∷ 240 ∷ 159 ∷ 152 ∷ 128 ∷ 97 ∷ 97 ∷ 226 ∷ 130 ∷ 172 ∷ 115 ∷ 97 ∷ 97
    ∷ 226 ∷ 130 ∷ 172 ∷ 115 ∷ 97 ∷ 97 ∷ 226 ∷ 130 ∷ 172 ∷ 115 ∷ []) true) 0 ≡ []
unfolding matches
judged_5_40 = refl

-- `\u{E9}|acb` of flags `i` on `\u{E9}b`
judged_5_41 : matches (cat (alt (cat (char 233) end_of_cat)
    (cat (char_set (65 ∷ 97 ∷ [])) (cat (char_set (67 ∷ 99 ∷ [])) (cat (char_set (66 ∷ 98 ∷ [])) end_of_cat))))
    (cat goal end_of_cat)) (utf8_text (195 ∷ 169 ∷ 98 ∷ []) false) 0 ≡ (found 0 2 [] ∷ [])
unfolding matches
judged_5_41 = refl

-- `s\u{20AC}` on `s\u{20AC}s\u{20AC}s\u{20AC}`
judged_5_42 : matches (cat (cat (char 115) (cat (char 8364) end_of_cat)) (cat goal end_of_cat))
    (utf8_text (115 ∷ 226 ∷ 130 ∷ 172 ∷ 115 ∷ 226 ∷ 130 ∷ 172 ∷ 115 ∷ 226 ∷ 130 ∷ 172 ∷ []) false)
    0 ≡ (found 0 4 [] ∷ found 4 8 [] ∷ found 8 12 [] ∷ [])
unfolding matches
judged_5_42 = refl

-- `(?<=\u{E9}s\u{20AC}aKabsb\u{E9}s\u{E9}bscKa\u{E9}aaa(?=\u{E9}))\u{E9}s\u{20AC}aKabsb\u{E9}s\u{E9}bscKa\u{E9}aaa` on `\u{E9}s\u{20AC}aKabsb\u{E9}s\u{E9}bscKa\u{E9}aaa\u{E9}s\u{20AC}aKabsb\u{E9}s\u{E9}bscKa\u{E9}aaac\u{20AC}`
judged_5_43 : matches (cat (cat (lookaround (look false true 0 0)
    (cat (lookaround (look false false 0 0) (cat (char 233) end_of_cat))
    (cat (char 97) (cat (char 97) (cat (char 97)
    (cat (char 233) (cat (char 97) (cat (char 75)
    (cat (char 99) (cat (char 115) (cat (char 98)
    (cat (char 233) (cat (char 115)
    (cat (char 233) (cat (char 98)
    (cat (char 115) (cat (char 98)
    (cat (char 97) (cat (char 75)
    (cat (char 97) (cat (char 8364)
    (cat (char 115) (cat (char 233) end_of_cat)))))))))))))))))))))))
    (cat (char 233) (cat (char 115)
    (cat (char 8364) (cat (char 97)
    (cat (char 75) (cat (char 97)
    (cat (char 98) (cat (char 115)
    (cat (char 98) (cat (char 233)
    (cat (char 115) (cat (char 233)
    (cat (char 98) (cat (char 115)
    (cat (char 99) (cat (char 75)
    (cat (char 97) (cat (char 233)
    (cat (char 97) (cat (char 97)
    (cat (char 97) end_of_cat)))))))))))))))))))))) (cat goal end_of_cat))
    (utf8_text (195 ∷ 169 ∷ 115 ∷ 226 ∷ 130 ∷ 172 ∷ 97 ∷ 75 ∷ 97 ∷ 98 ∷ 115 ∷ 98 ∷ 195 ∷ 169 ∷ 115 ∷ 195 ∷ 169 ∷ 98
    ∷ 115 ∷ 99 ∷ 75 ∷ 97 ∷ 195 ∷ 169 ∷ 97 ∷ 97 ∷ 97 ∷ 195 ∷ 169 ∷ 115 ∷ 226 ∷ 130 ∷ 172 ∷ 97 ∷ 75 ∷ 97 ∷ 98
    ∷ 115 ∷ 98 ∷ 195 ∷ 169 ∷ 115 ∷ 195 ∷ 169 ∷ 98 ∷ 115 ∷ 99 ∷ 75 ∷ 97 ∷ 195 ∷ 169 ∷ 97 ∷ 97 ∷ 97 ∷ 99 ∷ 226
    ∷ 130 ∷ 172 ∷ []) false) 0 ≡ (found 27 54 [] ∷ [])
unfolding matches
judged_5_43 = refl

-- `sa|saa\u{20AC}K` on `\u{E9}bsasa`
judged_5_44 : matches (cat (alt (cat (char 115) (cat (char 97) end_of_cat))
    (cat (char 115) (cat (char 97) (cat (char 97) (cat (char 8364) (cat (char 75) end_of_cat))))))
    (cat goal end_of_cat)) (utf8_text (195 ∷ 169 ∷ 98 ∷ 115 ∷ 97 ∷ 115 ∷ 97 ∷ []) false)
    0 ≡ (found 3 5 [] ∷ found 5 7 [] ∷ [])
unfolding matches
judged_5_44 = refl

-- `s` on `\u{20AC}s`
judged_5_45 : matches (cat (cat (char 115) end_of_cat) (cat goal end_of_cat))
    (utf8_text (226 ∷ 130 ∷ 172 ∷ 115 ∷ []) false) 0 ≡ (found 3 4 [] ∷ [])
unfolding matches
judged_5_45 = refl

-- `(?<=a\u{E9}(?=a))a\u{E9}` of flags `u` on `\u{A}a\u{E9}a\u{E9}\u{20AC}a\u{E9}`
judged_5_46 : matches (cat (cat (lookaround (look false true 0 0)
    (cat (lookaround (look false false 0 0) (cat (char 97) end_of_cat)) (cat (char 233) (cat (char 97) end_of_cat))))
    (cat (char 97) (cat (char 233) end_of_cat))) (cat goal end_of_cat))
    (utf8_text (10 ∷ 97 ∷ 195 ∷ 169 ∷ 97 ∷ 195 ∷ 169 ∷ 226 ∷ 130 ∷ 172 ∷ 97 ∷ 195 ∷ 169 ∷ []) true)
    0 ≡ (found 4 7 [] ∷ [])
unfolding matches
judged_5_46 = refl

-- `(?<=(?=bbb)bbb|b)a` on `bbb`
judged_5_47 : matches (cat (cat (lookaround (look false true 0 0)
    (alt (cat (char 98) (cat (char 98) (cat (char 98)
    (cat (lookaround (look false false 0 0) (cat (char 98) (cat (char 98) (cat (char 98) end_of_cat))))
    end_of_cat)))) (cat (char 98) end_of_cat))) (cat (char 97) end_of_cat)) (cat goal end_of_cat))
    (utf8_text (98 ∷ 98 ∷ 98 ∷ []) false) 0 ≡ []
unfolding matches
judged_5_47 = refl

-- `(?:)c\u{20AC}\u{20AC}\u{1F600}` of flags `u` on `c\u{20AC}\u{20AC}\u{1F600}`
judged_5_48 : matches (cat (cat end_of_cat (cat (char 99)
    (cat (char 8364) (cat (char 8364) (cat (char 128512) end_of_cat))))) (cat goal end_of_cat))
    (utf8_text (99 ∷ 226 ∷ 130 ∷ 172 ∷ 226 ∷ 130 ∷ 172 ∷ 240 ∷ 159 ∷ 152 ∷ 128 ∷ []) true) 0 ≡ (found 0 11 [] ∷ [])
unfolding matches
judged_5_48 = refl

-- `c\u{20AC}cs|cs\u{20AC}s` on `K\u{E9}\u{A}`
judged_5_49 : matches (cat (alt (cat (char 99) (cat (char 8364) (cat (char 99) (cat (char 115) end_of_cat))))
    (cat (char 99) (cat (char 115) (cat (char 8364) (cat (char 115) end_of_cat))))) (cat goal end_of_cat))
    (utf8_text (75 ∷ 195 ∷ 169 ∷ 10 ∷ []) false) 0 ≡ []
unfolding matches
judged_5_49 = refl

-- `(?=aKs)aKs` of flags `iu` on `aKsaKsaKscaKs`
judged_5_50 : matches (cat (cat (lookaround (look false false 0 0)
    (cat (char_set (65 ∷ 97 ∷ [])) (cat (char_set (75 ∷ 107 ∷ 8490 ∷ []))
    (cat (char_set (83 ∷ 115 ∷ 383 ∷ [])) end_of_cat))))
    (cat (char_set (65 ∷ 97 ∷ [])) (cat (char_set (75 ∷ 107 ∷ 8490 ∷ []))
    (cat (char_set (83 ∷ 115 ∷ 383 ∷ [])) end_of_cat)))) (cat goal end_of_cat))
    (utf8_text (97 ∷ 75 ∷ 115 ∷ 97 ∷ 75 ∷ 115 ∷ 97 ∷ 75 ∷ 115 ∷ 99 ∷ 97 ∷ 75 ∷ 115 ∷ []) true)
    0 ≡ (found 0 3 [] ∷ found 3 6 [] ∷ found 6 9 [] ∷ found 10 13 [] ∷ [])
unfolding matches
judged_5_50 = refl

-- `cs` on `cs\u{20AC}`
judged_5_51 : matches (cat (cat (char 99) (cat (char 115) end_of_cat)) (cat goal end_of_cat))
    (utf8_text (99 ∷ 115 ∷ 226 ∷ 130 ∷ 172 ∷ []) false) 0 ≡ (found 0 2 [] ∷ [])
unfolding matches
judged_5_51 = refl

-- `(?:)acs` of flags `u` on `acsacsacs`
judged_5_52 : matches (cat (cat end_of_cat (cat (char 97) (cat (char 99) (cat (char 115) end_of_cat))))
    (cat goal end_of_cat)) (utf8_text (97 ∷ 99 ∷ 115 ∷ 97 ∷ 99 ∷ 115 ∷ 97 ∷ 99 ∷ 115 ∷ []) true)
    0 ≡ (found 0 3 [] ∷ found 3 6 [] ∷ found 6 9 [] ∷ [])
unfolding matches
judged_5_52 = refl

-- `b\u{E9}*` of flags `iu` on `b\u{E9}\u{E9}`
judged_5_53 : matches (cat (cat (char_set (66 ∷ 98 ∷ []))
    (cat (loop_1_char_body (times 0 None true) (char 233)) end_of_cat)) (cat goal end_of_cat))
    (utf8_text (98 ∷ 195 ∷ 169 ∷ 195 ∷ 169 ∷ []) true) 0 ≡ (found 0 5 [] ∷ [])
unfolding matches
judged_5_53 = refl

-- `(?<=(?=b)b|b)c` of flags `m` on `bb\u{20AC}b`
judged_5_54 : matches (cat (cat (lookaround (look false true 0 0)
    (alt (cat (char 98) (cat (lookaround (look false false 0 0) (cat (char 98) end_of_cat)) end_of_cat))
    (cat (char 98) end_of_cat))) (cat (char 99) end_of_cat)) (cat goal end_of_cat))
    (utf8_text (98 ∷ 98 ∷ 226 ∷ 130 ∷ 172 ∷ 98 ∷ []) false) 0 ≡ []
unfolding matches
judged_5_54 = refl

-- `(?<=bK)s\u{E9}K` on `bK\u{E9}bK`
judged_5_55 : matches (cat (cat (lookaround (look false true 0 0) (cat (char 75) (cat (char 98) end_of_cat)))
    (cat (char 115) (cat (char 233) (cat (char 75) end_of_cat)))) (cat goal end_of_cat))
    (utf8_text (98 ∷ 75 ∷ 195 ∷ 169 ∷ 98 ∷ 75 ∷ []) false) 0 ≡ []
unfolding matches
judged_5_55 = refl

-- `\d0` on `10`
judged_5_56 : matches (cat (cat (bracket (in_brackets false ((48, 57) ∷ []))) (cat (char 48) end_of_cat))
    (cat goal end_of_cat)) (utf8_text (49 ∷ 48 ∷ []) false) 0 ≡ (found 0 2 [] ∷ [])
unfolding matches
judged_5_56 = refl

-- `]&&` on `]&&`
judged_5_57 : matches (cat (cat (char 93) (cat (char 38) (cat (char 38) end_of_cat))) (cat goal end_of_cat))
    (utf8_text (93 ∷ 38 ∷ 38 ∷ []) false) 0 ≡ (found 0 3 [] ∷ [])
unfolding matches
judged_5_57 = refl

-- `\_` on `cc`
judged_5_58 : matches (cat (cat (char 95) end_of_cat) (cat goal end_of_cat)) (utf8_text (99 ∷ 99 ∷ []) false) 0 ≡ []
unfolding matches
judged_5_58 = refl

-- `|` of flags `gimsuy` on ``
judged_5_59 : matches (cat (alt end_of_cat end_of_cat) (cat goal end_of_cat)) (utf8_text [] true)
    0 ≡ (found 0 0 [] ∷ [])
unfolding matches
judged_5_59 = refl

-- `\0+\0\/*` of flags `u` on `\u{E9}\u{E9}\u{E9}\u{E9}`
judged_5_60 : matches (cat (cat (loop_1_char_body (times 1 None true) (char 0))
    (cat (char 0) (cat (loop_1_char_body (times 0 None true) (char 47)) end_of_cat))) (cat goal end_of_cat))
    (utf8_text (195 ∷ 169 ∷ 195 ∷ 169 ∷ 195 ∷ 169 ∷ 195 ∷ 169 ∷ []) true) 0 ≡ []
unfolding matches
judged_5_60 = refl

-- `\0|0\&&` on `0x\u{E9}c\u{B}\u{E9}`
judged_5_61 : matches (cat (alt (cat (char 0) end_of_cat) (cat (char 48) (cat (char 38) (cat (char 38) end_of_cat))))
    (cat goal end_of_cat)) (utf8_text (48 ∷ 120 ∷ 195 ∷ 169 ∷ 99 ∷ 11 ∷ 195 ∷ 169 ∷ []) false) 0 ≡ []
unfolding matches
judged_5_61 = refl

-- `\\-\0` of flags `u` on ``
judged_5_62 : matches (cat (cat (char 92) (cat (char 45) (cat (char 0) end_of_cat))) (cat goal end_of_cat))
    (utf8_text [] true) 0 ≡ []
unfolding matches
judged_5_62 = refl

-- `{1` of flags `v` on `{1A`
judged_5_63 : matches (cat (cat (char 123) (cat (char 49) end_of_cat)) (cat goal end_of_cat))
    (utf8_text (123 ∷ 49 ∷ 65 ∷ []) false) 0 ≡ (found 0 2 [] ∷ [])
unfolding matches
judged_5_63 = refl
