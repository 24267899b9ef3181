-- Which trees are well formed.
use Rattle.std.specs.Prelude.{◌≡◌, [], ◌∷◌, Some, None, refl, true, false}
use Rattle.regex_meaning.specs.Tree.{empty, goal, char, char_set, byte_set, byte_sequence, cat, end_of_cat, alt, string_set, capture_group, back_ref, exact, lookaround, loop, loop_1_char_body}
use Rattle.regex_meaning.specs.WellFormedTrees.{is_well_formed}
use Rattle.std.specs.Str.{is_utf8, chars}
use Rattle.std.specs.Char.{encode_utf8 as encode}
use Rattle.test_meaning.specs.Computing.{times, look}

no_goal : is_well_formed (char 97) ≡ false
unfolding is_well_formed is_utf8 chars encode
no_goal = refl

same_id_twice : is_well_formed (cat (capture_group 0 [] (char 97))
    (cat (capture_group 0 [] (char 97)) (cat goal end_of_cat))) ≡ false
unfolding is_well_formed is_utf8 chars encode
same_id_twice = refl

no_such_group : is_well_formed (cat (back_ref 1 exact) (cat goal end_of_cat)) ≡ false
unfolding is_well_formed is_utf8 chars encode
no_such_group = refl

cut_sequence : is_well_formed (cat (byte_sequence (195 ∷ [])) (cat goal end_of_cat)) ≡ false
unfolding is_well_formed is_utf8 chars encode
cut_sequence = refl

minimum_above_maximum : is_well_formed (cat (loop (times 2 (Some 1) true) 0 0 (char 97)) (cat goal end_of_cat)) ≡ false
unfolding is_well_formed is_utf8 chars encode
minimum_above_maximum = refl

goal_first : is_well_formed (cat goal (cat (char 97) end_of_cat)) ≡ false
unfolding is_well_formed is_utf8 chars encode
goal_first = refl

two_goals : is_well_formed (alt goal goal) ≡ false
unfolding is_well_formed is_utf8 chars encode
two_goals = refl

nothing_at_all : is_well_formed end_of_cat ≡ false
unfolding is_well_formed is_utf8 chars encode
nothing_at_all = refl

id_left_out : is_well_formed (cat (capture_group 0 [] (char 97))
    (cat (capture_group 2 [] (char 97)) (cat goal end_of_cat))) ≡ false
unfolding is_well_formed is_utf8 chars encode
id_left_out = refl

group_not_named : is_well_formed (cat (loop (times 0 None true) 0 0 (capture_group 0 [] (char 97)))
    (cat goal end_of_cat)) ≡ false
unfolding is_well_formed is_utf8 chars encode
group_not_named = refl

group_not_inside : is_well_formed (cat (loop (times 0 None true) 0 1 (char 97)) (cat goal end_of_cat)) ≡ false
unfolding is_well_formed is_utf8 chars encode
group_not_inside = refl

range_reversed : is_well_formed (cat (loop (times 0 None true) 1 0 (char 97)) (cat goal end_of_cat)) ≡ false
unfolding is_well_formed is_utf8 chars encode
range_reversed = refl

look_names_too_much : is_well_formed (cat (lookaround (look false false 0 1) (char 97)) (cat goal end_of_cat)) ≡ false
unfolding is_well_formed is_utf8 chars encode
look_names_too_much = refl

group_zero : is_well_formed (cat (back_ref 0 exact) (cat (capture_group 0 [] (char 97)) (cat goal end_of_cat))) ≡ false
unfolding is_well_formed is_utf8 chars encode
group_zero = refl

group_past_the_last : is_well_formed (cat (back_ref 2 exact) (cat (capture_group 0 [] (char 97)) (cat goal end_of_cat)))
    ≡ false
unfolding is_well_formed is_utf8 chars encode
group_past_the_last = refl

one_character_order : is_well_formed (cat (loop_1_char_body (times 3 (Some 2) true) (char 97)) (cat goal end_of_cat))
    ≡ false
unfolding is_well_formed is_utf8 chars encode
one_character_order = refl

body_is_cat : is_well_formed (cat (loop_1_char_body (times 0 None true) (cat (char 97) end_of_cat))
    (cat goal end_of_cat)) ≡ false
unfolding is_well_formed is_utf8 chars encode
body_is_cat = refl

body_is_empty : is_well_formed (cat (loop_1_char_body (times 0 None true) empty) (cat goal end_of_cat)) ≡ false
unfolding is_well_formed is_utf8 chars encode
body_is_empty = refl

body_of_two : is_well_formed (cat (loop_1_char_body (times 0 None true) (byte_sequence (97 ∷ 98 ∷ [])))
    (cat goal end_of_cat)) ≡ false
unfolding is_well_formed is_utf8 chars encode
body_of_two = refl

empty_sequence : is_well_formed (cat (byte_sequence []) (cat goal end_of_cat)) ≡ false
unfolding is_well_formed is_utf8 chars encode
empty_sequence = refl

overlong_sequence : is_well_formed (cat (byte_sequence (192 ∷ 128 ∷ [])) (cat goal end_of_cat)) ≡ false
unfolding is_well_formed is_utf8 chars encode
overlong_sequence = refl

surrogate_sequence : is_well_formed (cat (byte_sequence (237 ∷ 160 ∷ 128 ∷ [])) (cat goal end_of_cat)) ≡ false
unfolding is_well_formed is_utf8 chars encode
surrogate_sequence = refl

five_bytes : is_well_formed (cat (byte_set (1 ∷ 2 ∷ 3 ∷ 4 ∷ 5 ∷ [])) (cat goal end_of_cat)) ≡ false
unfolding is_well_formed is_utf8 chars encode
five_bytes = refl

byte_past_ascii : is_well_formed (cat (byte_set (128 ∷ [])) (cat goal end_of_cat)) ≡ false
unfolding is_well_formed is_utf8 chars encode
byte_past_ascii = refl

five_characters : is_well_formed (cat (char_set (1 ∷ 2 ∷ 3 ∷ 4 ∷ 5 ∷ [])) (cat goal end_of_cat)) ≡ false
unfolding is_well_formed is_utf8 chars encode
five_characters = refl

strings_of_ascii : is_well_formed (cat (string_set ((97 ∷ []) ∷ []) false) (cat goal end_of_cat)) ≡ true
unfolding is_well_formed is_utf8 chars encode
strings_of_ascii = refl

string_past_unicode : is_well_formed (cat (string_set ((0x110000 ∷ []) ∷ []) false) (cat goal end_of_cat)) ≡ false
unfolding is_well_formed is_utf8 chars encode
string_past_unicode = refl

look_past_the_last_group : is_well_formed (cat (lookaround (look false false 5 5) (char 97)) (cat goal end_of_cat))
    ≡ true
unfolding is_well_formed is_utf8 chars encode
look_past_the_last_group = refl

nested_groups : is_well_formed (cat (cat (capture_group 0 []
    (alt (cat (capture_group 1 [] (cat (char 97) end_of_cat)) end_of_cat)
    (cat (capture_group 2 [] (cat (char 97) (cat (char 98) end_of_cat))) end_of_cat)))
    (cat (capture_group 3 [] (alt (cat (capture_group 4 [] (cat (char 99) end_of_cat)) end_of_cat)
    (cat (capture_group 5 [] (cat (char 98) (cat (char 99) end_of_cat))) end_of_cat))) end_of_cat))
    (cat goal end_of_cat)) ≡ true
unfolding is_well_formed is_utf8 chars encode
nested_groups = refl

loop_with_look : is_well_formed (cat (cat (loop (times 2 None true) 0 1
    (alt (cat (lookaround (look false false 0 1) (cat
    (capture_group 0 [] (cat (loop_1_char_body (times 1 None true) (char 97)) end_of_cat)) end_of_cat))
    (cat (loop_1_char_body (times 0 None true) (char 97)) (cat (char 98) (cat (back_ref 1 exact) end_of_cat))))
    (cat (loop_1_char_body (times 2 (Some 3) true) (char 120)) end_of_cat))) end_of_cat)
    (cat goal end_of_cat)) ≡ true
unfolding is_well_formed is_utf8 chars encode
loop_with_look = refl

sequence_of_one_character : is_well_formed (cat (loop_1_char_body (times 0 None true) (byte_sequence (195 ∷ 169 ∷ [])))
    (cat (cat goal end_of_cat) end_of_cat)) ≡ true
unfolding is_well_formed is_utf8 chars encode
sequence_of_one_character = refl

goal_alone : is_well_formed goal ≡ true
unfolding is_well_formed is_utf8 chars encode
goal_alone = refl

wide_sequences : is_well_formed (cat (byte_sequence (195 ∷ 169 ∷ 226 ∷ 130 ∷ 172 ∷ 240 ∷ 159 ∷ 152 ∷ 128 ∷ []))
    (cat (byte_sequence (244 ∷ 143 ∷ 191 ∷ 191 ∷ [])) (cat goal end_of_cat))) ≡ true
unfolding is_well_formed is_utf8 chars encode
wide_sequences = refl

sequence_past_unicode : is_well_formed (cat (byte_sequence (244 ∷ 144 ∷ 128 ∷ 128 ∷ [])) (cat goal end_of_cat)) ≡ false
unfolding is_well_formed is_utf8 chars encode
sequence_past_unicode = refl

overlong_sequence_of_three : is_well_formed (cat (byte_sequence (224 ∷ 128 ∷ 128 ∷ [])) (cat goal end_of_cat)) ≡ false
unfolding is_well_formed is_utf8 chars encode
overlong_sequence_of_three = refl

lone_continuation : is_well_formed (cat (byte_sequence (128 ∷ [])) (cat goal end_of_cat)) ≡ false
unfolding is_well_formed is_utf8 chars encode
lone_continuation = refl
