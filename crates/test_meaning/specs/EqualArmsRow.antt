-- A loop over two equal arms, on forty characters: only the first outcome is computed.
use Rattle.std.specs.Prelude.{◌≡◌, [], ◌∷◌, None, refl, true, false}
use Rattle.regex_meaning.specs.Tree.{Node, goal, char, cat, end_of_cat, alt, loop}
use Rattle.regex_meaning.specs.Text.{utf8_text}
use Rattle.test_meaning.specs.Computing.{found, first, times}

-- `(?:a|a)*`
abbrev forty-tree : Node
forty-tree = (cat (cat (loop (times 0 None true) 0 0 (alt (cat (char 97) end_of_cat) (cat (char 97) end_of_cat)))
    end_of_cat) (cat goal end_of_cat))

forty : first forty-tree (utf8_text (97 ∷ 97 ∷ 97 ∷ 97 ∷ 97 ∷ 97 ∷ 97 ∷ 97 ∷ 97 ∷ 97 ∷ 97 ∷ 97 ∷ 97 ∷ 97 ∷ 97 ∷ 97 ∷ 97
    ∷ 97 ∷ 97 ∷ 97 ∷ 97 ∷ 97 ∷ 97 ∷ 97 ∷ 97 ∷ 97 ∷ 97 ∷ 97 ∷ 97 ∷ 97 ∷ 97 ∷ 97 ∷ 97 ∷ 97 ∷ 97 ∷ 97 ∷ 97 ∷ 97 ∷ 97 ∷ 97
    ∷ []) false) 0 ≡ (found 0 40 [] ∷ [])
unfolding first
forty = refl
