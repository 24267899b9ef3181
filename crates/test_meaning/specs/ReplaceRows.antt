-- Texts whose matches are replaced.
use Rattle.std.specs.Prelude.{◌≡◌, [], ◌∷◌, Some, None, refl, true, false, codes}
use Rattle.regex_meaning.specs.Tree.{goal, char, cat, end_of_cat, alt, bracket, word_boundary, capture_group, lookaround, loop_1_char_body}
use Rattle.regex_meaning.specs.Text.{utf8_text}
use Rattle.test_meaning.specs.Computing.{named, replaced_by, times, in_brackets, look}

-- `(\d{4})-(\d{2})-(\d{2})` in `2023-12-25` by `$2/$3/$1`
date : replaced_by 1 (cat (cat (capture_group 0 [] (cat
    (loop_1_char_body (times 4 (Some 4) true) (bracket (in_brackets false ((48, 57) ∷ [])))) end_of_cat))
    (cat (char 45) (cat (capture_group 1 [] (cat
    (loop_1_char_body (times 2 (Some 2) true) (bracket (in_brackets false ((48, 57) ∷ [])))) end_of_cat))
    (cat (char 45) (cat (capture_group 2 []
    (cat (loop_1_char_body (times 2 (Some 2) true) (bracket (in_brackets false ((48, 57) ∷ []))))
    end_of_cat)) end_of_cat))))) (cat goal end_of_cat)) (codes "2023-12-25")
    (codes "$2/$3/$1") ≡ (codes "12/25/2023")
unfolding replaced_by
date = refl

-- `(\w+)` in `hello` by `$1 $2 $3`
groups_that_are_not : replaced_by 1 (cat (cat (capture_group 0 []
    (cat (loop_1_char_body (times 1 None true) (bracket
    (in_brackets false ((48, 57) ∷ (65, 90) ∷ (95, 95) ∷ (97, 122) ∷ [])))) end_of_cat)) end_of_cat)
    (cat goal end_of_cat)) (codes "hello") (codes "$1 $2 $3") ≡ (codes "hello  ")
unfolding replaced_by
groups_that_are_not = refl

-- `(\w+)` in `hello` by `$999`
far_group : replaced_by 1 (cat (cat (capture_group 0 []
    (cat (loop_1_char_body (times 1 None true) (bracket
    (in_brackets false ((48, 57) ∷ (65, 90) ∷ (95, 95) ∷ (97, 122) ∷ [])))) end_of_cat)) end_of_cat)
    (cat goal end_of_cat)) (codes "hello") (codes "$999") ≡ []
unfolding replaced_by
far_group = refl

-- `(\w+)` in `hello` by `${x $1`
unclosed : replaced_by 1 (cat (cat (capture_group 0 []
    (cat (loop_1_char_body (times 1 None true) (bracket
    (in_brackets false ((48, 57) ∷ (65, 90) ∷ (95, 95) ∷ (97, 122) ∷ [])))) end_of_cat)) end_of_cat)
    (cat goal end_of_cat)) (codes "hello") (codes "${x $1") ≡ (codes "${x $1")
unfolding replaced_by
unclosed = refl

-- `\d+` in `Price: 123` by `$$0`
dollar : replaced_by 1 (cat (cat (loop_1_char_body (times 1 None true) (bracket (in_brackets false ((48, 57) ∷ []))))
    end_of_cat) (cat goal end_of_cat)) (codes "Price: 123") (codes "$$0") ≡ (codes "Price: $0")
unfolding replaced_by
dollar = refl

-- `(?=\d)` in `a1b2c` by `X`
empty_match : replaced_by 1 (cat (cat (lookaround (look false false 0 0)
    (cat (bracket (in_brackets false ((48, 57) ∷ []))) end_of_cat)) end_of_cat) (cat goal end_of_cat)) (codes "a1b2c")
    (codes "X") ≡ (codes "aX1b2c")
unfolding replaced_by
empty_match = refl

-- `\b(\w)(\w+)` in `hello world` by `$1.$2`
words : replaced_by 100 (cat (cat (word_boundary false false)
    (cat (capture_group 0 [] (cat (bracket (in_brackets false ((48, 57) ∷ (65, 90) ∷ (95, 95) ∷ (97, 122) ∷ [])))
    end_of_cat)) (cat (capture_group 1 [] (cat (loop_1_char_body (times 1 None true)
    (bracket (in_brackets false ((48, 57) ∷ (65, 90) ∷ (95, 95) ∷ (97, 122) ∷ [])))) end_of_cat)) end_of_cat)))
    (cat goal end_of_cat)) (codes "hello world") (codes "$1.$2") ≡ (codes "h.ello w.orld")
unfolding replaced_by
words = refl

-- `a` in `a` by `$655367`
past_the_largest : replaced_by 1 (cat (cat (char 97) end_of_cat) (cat goal end_of_cat)) (codes "a")
    (codes "$655367") ≡ (codes "7")
unfolding replaced_by
past_the_largest = refl

-- `a*` in `baac` by `-`
everywhere : replaced_by 100 (cat (cat (loop_1_char_body (times 0 None true) (char 97)) end_of_cat)
    (cat goal end_of_cat)) (codes "baac") (codes "-") ≡ (codes "-b--c-")
unfolding replaced_by
everywhere = refl

-- `(a)` in `a` by `$01`
leading_zero : replaced_by 1 (cat (cat (capture_group 0 [] (cat (char 97) end_of_cat)) end_of_cat)
    (cat goal end_of_cat)) (codes "a") (codes "$01") ≡ (codes "a")
unfolding replaced_by
leading_zero = refl

-- `(a)` in `a` by `$10`
ten : replaced_by 1 (cat (cat (capture_group 0 [] (cat (char 97) end_of_cat)) end_of_cat) (cat goal end_of_cat))
    (codes "a") (codes "$10") ≡ []
unfolding replaced_by
ten = refl

-- `(?<n>a)` in `xa` by `[${n}]`
by_name : replaced_by 1 (cat (cat (capture_group 0 (110 ∷ []) (cat (char 97) end_of_cat)) end_of_cat)
    (cat goal end_of_cat)) (codes "xa") (codes "[${n}]") ≡ (codes "x[a]")
unfolding replaced_by
by_name = refl

-- `a` in `a` by `$x$`
lone_dollars : replaced_by 1 (cat (cat (char 97) end_of_cat) (cat goal end_of_cat)) (codes "a")
    (codes "$x$") ≡ (codes "$x$")
unfolding replaced_by
lone_dollars = refl

-- `a` in `a` by `${}`
no_name : replaced_by 1 (cat (cat (char 97) end_of_cat) (cat goal end_of_cat)) (codes "a") (codes "${}") ≡ []
unfolding replaced_by
no_name = refl

-- `z` in `abc` by `X`
no_match : replaced_by 100 (cat (cat (char 122) end_of_cat) (cat goal end_of_cat)) (codes "abc")
    (codes "X") ≡ (codes "abc")
unfolding replaced_by
no_match = refl

-- `\d` in `a1b2c` by `$0`
whole : replaced_by 100 (cat (cat (bracket (in_brackets false ((48, 57) ∷ []))) end_of_cat) (cat goal end_of_cat))
    (codes "a1b2c") (codes "$0") ≡ (codes "a1b2c")
unfolding replaced_by
whole = refl

-- Two groups with the same name, in two arms.
either : replaced_by 100 (cat (alt (capture_group 0 (codes "n") (char 97)) (capture_group 1 (codes "n") (char 98)))
    (cat goal end_of_cat)) (codes "ab") (codes "[${n}]") ≡ codes "[a][b]"
unfolding replaced_by
either = refl

-- Two groups with the same name in sequence: the first one is used.
first_of_both : named (cat (capture_group 0 (codes "n") (char 97))
    (cat (capture_group 1 (codes "n") (char 98)) (cat goal end_of_cat))) (utf8_text (codes "ab") false)
    (codes "n") ≡ (Some (0, 1) ∷ [])
unfolding named
first_of_both = refl

second_arm : named (cat (alt (capture_group 0 (codes "n") (char 97)) (capture_group 1 (codes "n") (char 98)))
    (cat goal end_of_cat)) (utf8_text (codes "b") false) (codes "n") ≡ (Some (0, 1) ∷ [])
unfolding named
second_arm = refl

-- `(?<=(?<a>x)(?<b>y))z`: each name has the id of its group.
behind : named (cat (cat (lookaround (look false true 0 2)
    (cat (capture_group 1 (98 ∷ []) (cat (char 121) end_of_cat))
    (cat (capture_group 0 (97 ∷ []) (cat (char 120) end_of_cat)) end_of_cat))) (cat (char 122) end_of_cat))
    (cat goal end_of_cat)) (utf8_text (codes "xyz") false) (codes "a") ≡ (Some (0, 1) ∷ [])
unfolding named
behind = refl

behind_too : named (cat (cat (lookaround (look false true 0 2)
    (cat (capture_group 1 (98 ∷ []) (cat (char 121) end_of_cat))
    (cat (capture_group 0 (97 ∷ []) (cat (char 120) end_of_cat)) end_of_cat))) (cat (char 122) end_of_cat))
    (cat goal end_of_cat)) (utf8_text (codes "xyz") false) (codes "b") ≡ (Some (1, 2) ∷ [])
unfolding named
behind_too = refl
