-- A search of very many steps.
use Rattle.std.specs.Prelude.{◌≡◌, ℕ, List, [], ◌∷◌, None, refl, true, false, Bool, zero, suc}
use Rattle.regex_meaning.specs.Tree.{Node, goal, char, cat, end_of_cat, alt, loop}
use Rattle.regex_meaning.specs.Text.{utf8_text, rightwards, fold_code_point, expand_code_point}
use Rattle.std.specs.Str.{chars}
use Rattle.regex_meaning.specs.Outcomes.{outcomes, bounded_repeat}
use Rattle.regex_meaning.specs.FirstAndAllMatches.{no_groups}
use Rattle.regex_meaning.specs.OutcomesWithStepTicks.{TickOrOutcome, tick, pair, ticked, ticked_bounded_repeat}
use Rattle.test_meaning.specs.Computing.{times}

-- There are more ticks than this before the first pair.
abbrev takes_more_than : ℕ → List TickOrOutcome → Bool
takes_more_than n [] = false
takes_more_than n (pair o ∷ items) = false
takes_more_than zero (tick ∷ items) = true
takes_more_than (suc n) (tick ∷ items) = takes_more_than n items

abbrev many : Node
many = (cat (cat (loop (times 0 None true) 0 0 (alt (cat (char 97) end_of_cat) (cat (char 97) end_of_cat)))
    (cat (char 98) end_of_cat)) (cat goal end_of_cat))

over : takes_more_than 10000 (ticked (utf8_text (97 ∷ 97 ∷ 97 ∷ 97 ∷ 97 ∷ 97 ∷ 97 ∷ 97 ∷ 97 ∷ 97 ∷ 97 ∷ 97 ∷ 97 ∷ 97
    ∷ 97 ∷ 97 ∷ 97 ∷ 97 ∷ 97 ∷ 97 ∷ 97 ∷ 97 ∷ 97 ∷ 97 ∷ 97 ∷ 97 ∷ 97 ∷ 97 ∷ 97 ∷ 97 ∷ 97 ∷ 97 ∷ 97 ∷ 97 ∷ 97 ∷ 97 ∷ 97
    ∷ 97 ∷ 97 ∷ 97 ∷ []) false) many rightwards 0 (no_groups many)) ≡ true
unfolding ticked ticked_bounded_repeat outcomes bounded_repeat fold_code_point expand_code_point chars
over = refl
