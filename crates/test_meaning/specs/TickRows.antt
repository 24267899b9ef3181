-- Needs and start predicates.
use Rattle.std.specs.Prelude.{◌≡◌, [], ◌∷◌, Some, None, refl, true, false}
use Rattle.regex_meaning.specs.Tree.{Node, goal, char, byte_set, byte_sequence, cat, end_of_cat, alt, bracket, anchor, start_of_line, capture_group, lookaround, loop, loop_1_char_body}
use Rattle.regex_meaning.specs.Text.{utf8_text}
use Rattle.regex_meaning.specs.StartPredicate.{start_arbitrary, start_byte_set, start_byte_sequence, start_anchored}
use Rattle.test_meaning.specs.Computing.{needs_of, start_of_tree, times, in_brackets, look}

abbrev one_character-tree : Node
one_character-tree = (cat (char 97) (cat goal end_of_cat))

one_character : needs_of one_character-tree (utf8_text (97 ∷ []) false) 0 ≡ (2 ∷ 3 ∷ [])
unfolding needs_of
one_character = refl

abbrev alternatives-tree : Node
alternatives-tree = (cat (alt (char 97) (char 98)) (cat goal end_of_cat))

alternatives : needs_of alternatives-tree (utf8_text (98 ∷ []) false) 0 ≡ (5 ∷ 9 ∷ [])
unfolding needs_of
alternatives = refl

abbrev one_character_loop-tree : Node
one_character_loop-tree = (cat (loop_1_char_body (times 0 None true) (char 97)) (cat (char 97) (cat goal end_of_cat)))

one_character_loop : needs_of one_character_loop-tree (utf8_text (97 ∷ 97 ∷ []) false) 0 ≡ (8 ∷ 11 ∷ [])
unfolding needs_of
one_character_loop = refl

abbrev group_in_loop-tree : Node
group_in_loop-tree = (cat (loop (times 0 (Some 1) true) 0 1 (capture_group 0 [] (char 97))) (cat goal end_of_cat))

group_in_loop : needs_of group_in_loop-tree (utf8_text (97 ∷ []) false) 0 ≡ (7 ∷ 13 ∷ 13 ∷ [])
unfolding needs_of
group_in_loop = refl

abbrev sequence-tree : Node
sequence-tree = (cat (byte_sequence (97 ∷ 98 ∷ [])) (cat goal end_of_cat))

sequence : needs_of sequence-tree (utf8_text (97 ∷ 97 ∷ 98 ∷ []) false) 0 ≡ (2 ∷ 2 ∷ [])
unfolding needs_of
sequence = refl

abbrev anchored-tree : Node
anchored-tree = (cat (cat (anchor start_of_line false) (cat (char 97) end_of_cat)) (cat goal end_of_cat))

anchored : needs_of anchored-tree (utf8_text (97 ∷ 97 ∷ []) false) 1 ≡ (1 ∷ [])
unfolding needs_of
anchored = refl

past_the_end : needs_of anchored-tree (utf8_text (97 ∷ 97 ∷ []) false) 3 ≡ (0 ∷ [])
unfolding needs_of
past_the_end = refl

abbrev forked-tree : Node
forked-tree = (cat (cat (loop (times 0 None true) 0 0 (alt (cat (char 97) end_of_cat) (cat (char 97) end_of_cat)))
    end_of_cat) (cat goal end_of_cat))

forked_0 : needs_of forked-tree (utf8_text [] false) 0 ≡ (7 ∷ 7 ∷ [])
unfolding needs_of
forked_0 = refl

forked_1 : needs_of forked-tree (utf8_text (97 ∷ []) false) 0 ≡ (11 ∷ 18 ∷ 18 ∷ [])
unfolding needs_of
forked_1 = refl

forked_2 : needs_of forked-tree (utf8_text (97 ∷ 97 ∷ []) false) 0 ≡ (15 ∷ 22 ∷ 22 ∷ [])
unfolding needs_of
forked_2 = refl

forked_4 : needs_of forked-tree (utf8_text (97 ∷ 97 ∷ 97 ∷ 97 ∷ []) false) 0 ≡ (23 ∷ 30 ∷ 30 ∷ [])
unfolding needs_of
forked_4 = refl

forked_8 : needs_of forked-tree (utf8_text (97 ∷ 97 ∷ 97 ∷ 97 ∷ 97 ∷ 97 ∷ 97 ∷ 97 ∷ []) false) 0 ≡ (39 ∷ 46 ∷ 46 ∷ [])
unfolding needs_of
forked_8 = refl

forked_10 : needs_of forked-tree (utf8_text (97 ∷ 97 ∷ 97 ∷ 97 ∷ 97 ∷ 97 ∷ 97 ∷ 97 ∷ 97 ∷ 97 ∷ []) false)
    0 ≡ (47 ∷ 54 ∷ 54 ∷ [])
unfolding needs_of
forked_10 = refl

forked_40 : needs_of forked-tree (utf8_text (97 ∷ 97 ∷ 97 ∷ 97 ∷ 97 ∷ 97 ∷ 97 ∷ 97 ∷ 97 ∷ 97 ∷ 97 ∷ 97 ∷ 97 ∷ 97 ∷ 97
    ∷ 97 ∷ 97 ∷ 97 ∷ 97 ∷ 97 ∷ 97 ∷ 97 ∷ 97 ∷ 97 ∷ 97 ∷ 97 ∷ 97 ∷ 97 ∷ 97 ∷ 97 ∷ 97 ∷ 97 ∷ 97 ∷ 97 ∷ 97 ∷ 97 ∷ 97 ∷ 97
    ∷ 97 ∷ 97 ∷ []) false) 0 ≡ (167 ∷ 174 ∷ 174 ∷ [])
unfolding needs_of
forked_40 = refl

start_of_sequence : start_of_tree (cat (byte_sequence (97 ∷ 98 ∷ 99 ∷ [])) (cat goal end_of_cat)) ≡ start_byte_sequence
    (97 ∷ 98 ∷ 99 ∷ [])
unfolding start_of_tree
start_of_sequence = refl

start_of_shared_front : start_of_tree (cat (alt (byte_sequence (97 ∷ 98 ∷ 99 ∷ []))
    (byte_sequence (97 ∷ 98 ∷ 100 ∷ []))) (cat goal end_of_cat)) ≡ start_byte_sequence (97 ∷ 98 ∷ [])
unfolding start_of_tree
start_of_shared_front = refl

start_of_first_bytes : start_of_tree (cat (alt (byte_sequence (97 ∷ 98 ∷ 99 ∷ []))
    (byte_sequence (120 ∷ 121 ∷ 122 ∷ []))) (cat goal end_of_cat)) ≡ start_byte_set (97 ∷ 120 ∷ [])
unfolding start_of_tree
start_of_first_bytes = refl

start_of_optional : start_of_tree (cat (loop (times 0 None true) 0 0 (byte_sequence (97 ∷ 98 ∷ 99 ∷ [])))
    (cat goal end_of_cat)) ≡ start_arbitrary
unfolding start_of_tree
start_of_optional = refl

start_of_empty_set : start_of_tree (cat (byte_set []) (cat goal end_of_cat)) ≡ start_arbitrary
unfolding start_of_tree
start_of_empty_set = refl

start_of_look : start_of_tree (cat (lookaround (look false false 0 0) (char 97))
    (cat (byte_sequence (97 ∷ [])) (cat goal end_of_cat))) ≡ start_byte_set (97 ∷ [])
unfolding start_of_tree
start_of_look = refl

start_of_anchored : start_of_tree (cat (anchor start_of_line false) (cat (char 97) (cat goal end_of_cat)))
    ≡ start_anchored
unfolding start_of_tree
start_of_anchored = refl

start_of_bracket : start_of_tree (cat (bracket (in_brackets false ((97, 99) ∷ (233, 233) ∷ (8364, 8364) ∷ [])))
    (cat goal end_of_cat)) ≡ start_byte_set (97 ∷ 98 ∷ 99 ∷ 0xc3 ∷ 0xe2 ∷ [])
unfolding start_of_tree
start_of_bracket = refl

start_of_complement : start_of_tree (cat (bracket (in_brackets true ((97, 97) ∷ []))) (cat goal end_of_cat))
    ≡ start_byte_set (0 ∷ 1 ∷ 2 ∷ 3 ∷ 4 ∷ 5 ∷ 6 ∷ 7 ∷ 8 ∷ 9 ∷ 10 ∷ 11 ∷ 12 ∷ 13 ∷ 14 ∷ 15 ∷ 16 ∷ 17 ∷ 18 ∷ 19 ∷ 20 ∷ 21
    ∷ 22 ∷ 23 ∷ 24 ∷ 25 ∷ 26 ∷ 27 ∷ 28 ∷ 29 ∷ 30 ∷ 31 ∷ 32 ∷ 33 ∷ 34 ∷ 35 ∷ 36 ∷ 37 ∷ 38 ∷ 39 ∷ 40 ∷ 41 ∷ 42 ∷ 43
    ∷ 44 ∷ 45 ∷ 46 ∷ 47 ∷ 48 ∷ 49 ∷ 50 ∷ 51 ∷ 52 ∷ 53 ∷ 54 ∷ 55 ∷ 56 ∷ 57 ∷ 58 ∷ 59 ∷ 60 ∷ 61 ∷ 62 ∷ 63 ∷ 64
    ∷ 65 ∷ 66 ∷ 67 ∷ 68 ∷ 69 ∷ 70 ∷ 71 ∷ 72 ∷ 73 ∷ 74 ∷ 75 ∷ 76 ∷ 77 ∷ 78 ∷ 79 ∷ 80 ∷ 81 ∷ 82 ∷ 83 ∷ 84 ∷ 85
    ∷ 86 ∷ 87 ∷ 88 ∷ 89 ∷ 90 ∷ 91 ∷ 92 ∷ 93 ∷ 94 ∷ 95 ∷ 96 ∷ 98 ∷ 99 ∷ 100 ∷ 101 ∷ 102 ∷ 103 ∷ 104 ∷ 105
    ∷ 106 ∷ 107 ∷ 108 ∷ 109 ∷ 110 ∷ 111 ∷ 112 ∷ 113 ∷ 114 ∷ 115 ∷ 116 ∷ 117 ∷ 118 ∷ 119 ∷ 120 ∷ 121
    ∷ 122 ∷ 123 ∷ 124 ∷ 125 ∷ 126 ∷ 127 ∷ 194 ∷ 195 ∷ 196 ∷ 197 ∷ 198 ∷ 199 ∷ 200 ∷ 201 ∷ 202
    ∷ 203 ∷ 204 ∷ 205 ∷ 206 ∷ 207 ∷ 208 ∷ 209 ∷ 210 ∷ 211 ∷ 212 ∷ 213 ∷ 214 ∷ 215 ∷ 216
    ∷ 217 ∷ 218 ∷ 219 ∷ 220 ∷ 221 ∷ 222 ∷ 223 ∷ 224 ∷ 225 ∷ 226 ∷ 227 ∷ 228 ∷ 229 ∷ 230
    ∷ 231 ∷ 232 ∷ 233 ∷ 234 ∷ 235 ∷ 236 ∷ 237 ∷ 238 ∷ 239 ∷ 240 ∷ 241 ∷ 242 ∷ 243
    ∷ 244 ∷ [])
unfolding start_of_tree
start_of_complement = refl
