-- The first worked rows over ASCII text.
use Rattle.std.specs.Prelude.{◌≡◌, [], ◌∷◌, Some, None, refl, true, false, codes}
use Rattle.regex_meaning.specs.Tree.{goal, char, char_set, cat, end_of_cat, alt, capture_group, back_ref, exact, folded, lookaround, loop_1_char_body}
use Rattle.regex_meaning.specs.Text.{ascii_text}
use Rattle.test_meaning.specs.Computing.{found, matches, times, look}

-- `a|ab`
alternatives : matches (cat (alt (cat (char 97) end_of_cat) (cat (char 97) (cat (char 98) end_of_cat)))
    (cat goal end_of_cat)) (ascii_text (codes "abc") false) 0 ≡ (found 0 1 [] ∷ [])
unfolding matches
alternatives = refl

-- `((a)|(ab))((c)|(bc))`
groups : matches (cat (cat (capture_group 0 [] (alt (cat (capture_group 1 [] (cat (char 97) end_of_cat)) end_of_cat)
    (cat (capture_group 2 [] (cat (char 97) (cat (char 98) end_of_cat))) end_of_cat)))
    (cat (capture_group 3 [] (alt (cat (capture_group 4 [] (cat (char 99) end_of_cat)) end_of_cat)
    (cat (capture_group 5 [] (cat (char 98) (cat (char 99) end_of_cat))) end_of_cat))) end_of_cat))
    (cat goal end_of_cat)) (ascii_text (codes "abc") false)
    0 ≡ (found 0 3 (Some (0, 1) ∷ Some (0, 1) ∷ None ∷ Some (1, 3) ∷ None ∷ Some (1, 3) ∷ []) ∷ [])
unfolding matches
groups = refl

-- `(?<=x)y`
behind : matches (cat (cat (lookaround (look false true 0 0) (cat (char 120) end_of_cat)) (cat (char 121) end_of_cat))
    (cat goal end_of_cat)) (ascii_text (codes "yxy") false) 0 ≡ (found 2 3 [] ∷ [])
unfolding matches
behind = refl

-- `(?<=x)y`: the text before the start is part of the text.
behind_from : matches (cat (cat (lookaround (look false true 0 0) (cat (char 120) end_of_cat))
    (cat (char 121) end_of_cat)) (cat goal end_of_cat)) (ascii_text (codes "xyxy") false)
    1 ≡ (found 1 2 [] ∷ found 3 4 [] ∷ [])
unfolding matches
behind_from = refl

-- `a*`
empty_matches : matches (cat (cat (loop_1_char_body (times 0 None true) (char 97)) end_of_cat) (cat goal end_of_cat))
    (ascii_text (codes "aab") false) 0 ≡ (found 0 2 [] ∷ found 2 2 [] ∷ found 3 3 [] ∷ [])
unfolding matches
empty_matches = refl

-- `a*` from the end
at_the_end : matches (cat (cat (loop_1_char_body (times 0 None true) (char 97)) end_of_cat) (cat goal end_of_cat))
    (ascii_text (codes "aab") false) 3 ≡ (found 3 3 [] ∷ [])
unfolding matches
at_the_end = refl

-- `a*` from past the end
past_the_end : matches (cat (cat (loop_1_char_body (times 0 None true) (char 97)) end_of_cat) (cat goal end_of_cat))
    (ascii_text (codes "aab") false) 4 ≡ []
unfolding matches
past_the_end = refl

-- `(a|\1b)c`
open_group : matches (cat (cat (capture_group 0 [] (alt (cat (char 97) end_of_cat)
    (cat (back_ref 1 exact) (cat (char 98) end_of_cat)))) (cat (char 99) end_of_cat)) (cat goal end_of_cat))
    (ascii_text (codes "abc") false) 0 ≡ (found 1 3 (Some (1, 2) ∷ []) ∷ [])
unfolding matches
open_group = refl

-- `(k)\1` of flags `iu`: a backreference by fold
same_fold : matches (cat (cat (capture_group 0 [] (cat (char_set (75 ∷ 107 ∷ 8490 ∷ [])) end_of_cat))
    (cat (back_ref 1 folded) end_of_cat)) (cat goal end_of_cat)) (ascii_text (codes "kK") true)
    0 ≡ (found 0 2 (Some (0, 1) ∷ []) ∷ [])
unfolding matches
same_fold = refl
