-- Matches in offsets, in a form that tests can compute.
use Rattle.std.specs.Prelude.{ℕ, List, [], ◌∷◌, map, take, length, ◌+◌, Option, option_map, true, false, Bool, not, ◌||◌}
use Rattle.std.specs.List.{list_all}
use Rattle.regex_meaning.specs.NumberListHelpers.{numbers_from}
use Rattle.std.specs.Str.{chars}
use Rattle.regex_meaning.specs.Tree.{Intervals, BracketContents, Quantifier, Lookaround, Node}
use Rattle.regex_meaning.specs.GrammarLaws.{no_flags}
use Rattle.regex_meaning.specs.Text.{Text, utf8_text, rightwards, fold_code_point, expand_code_point}
use Rattle.regex_meaning.specs.Outcomes.{Outcome, outcomes, bounded_repeat, Groups}
use Rattle.regex_meaning.specs.FirstAndAllMatches.{Found, no_groups, match_list, first_match_among, matches_from}
use Rattle.regex_meaning.specs.MatchGroupsByNumberAndName.{Answer, answers_from, named_group}
use Rattle.regex_meaning.specs.SearchAnswers.{answer_at, next_start}
use Rattle.regex_meaning.specs.Replace.{expansion, replaced}
use Rattle.regex_meaning.specs.StartPredicate.{StartPredicate, start_predicate, abstract_start_predicate, bytes_that_pass, may_start}
use Rattle.regex_meaning.specs.OutcomesWithStepTicks.{ticked, ticked_bounded_repeat, need, needs}
use Rattle.std.specs.Char.{encode_utf8 as encode}

abbrev pub found : ℕ → ℕ → Groups → Found
found start end groups = record { start = start; end = end; groups = groups }

abbrev pub times : ℕ → Option ℕ → Bool → Quantifier
times min max greedy = record { min = min; max = max; greedy = greedy }

abbrev pub in_brackets : Bool → Intervals → BracketContents
in_brackets invert intervals = record { invert = invert; intervals = intervals }

abbrev pub look : Bool → Bool → ℕ → ℕ → Lookaround
look negate backwards start_group end_group =
    record { negate = negate; backwards = backwards; start_group = start_group; end_group = end_group }

abbrev pub as_found : Answer → Found
as_found m = record { start = m.range.0; end = m.range.1; groups = m.captures }

unfoldable pub matches : Node → Text → ℕ → List Found
unfolding answers_from match_list first_match_among matches_from outcomes bounded_repeat fold_code_point
    expand_code_point chars
matches root text start = map as_found (answers_from root text start)

unfoldable pub first : Node → Text → ℕ → List Found
unfolding answers_from match_list first_match_among matches_from outcomes bounded_repeat fold_code_point
    expand_code_point chars
first root text start = map as_found (take 1 (answers_from root text start))

-- The match at an offset.
unfoldable pub at_offset : Node → Text → ℕ → Option Found
unfolding outcomes bounded_repeat fold_code_point expand_code_point chars
at_offset root text at = option_map as_found (answer_at root text at)

-- Where the list of matches continues after the first match from an offset on.
unfoldable pub goes_on_at : Node → Text → ℕ → Option ℕ
unfolding first_match_among outcomes bounded_repeat fold_code_point expand_code_point chars
goes_on_at root text start = next_start root text start

-- The ranges of the groups with a name, in all matches from the start on.
unfoldable pub named : Node → Text → (name : List ℕ) → List (Option (ℕ × ℕ))
unfolding answers_from match_list first_match_among matches_from outcomes bounded_repeat fold_code_point
    expand_code_point chars
named root text name = map (λ m. named_group m name) (answers_from root text 0)

-- The text with at most `count` matches replaced.
unfoldable pub replaced_by : (count : ℕ) → Node → (text replacement : List ℕ) → List ℕ
unfolding answers_from match_list first_match_among matches_from outcomes bounded_repeat fold_code_point
    expand_code_point chars replaced expansion
replaced_by count root text replacement =
    replaced text 0 (map (λ m. (m, expansion text m replacement))
    (take count (answers_from root (utf8_text text false) 0)))

unfoldable pub needs_of : Node → Text → ℕ → List ℕ
unfolding needs need ticked ticked_bounded_repeat start_predicate abstract_start_predicate bytes_that_pass may_start
    match_list first_match_among matches_from outcomes bounded_repeat fold_code_point expand_code_point chars encode
needs_of root text place = needs (record { root = root; flags = no_flags }) text place

unfoldable pub start_of_tree : Node → StartPredicate
unfolding start_predicate abstract_start_predicate bytes_that_pass chars encode
start_of_tree root = start_predicate (record { root = root; flags = no_flags })

abbrev has_outcome : List Outcome → Bool
has_outcome [] = false
has_outcome (o ∷ os) = true

-- The start predicate admits each place at which the tree has an outcome.
unfoldable pub sound_on : Node → Text → Bool
unfolding outcomes bounded_repeat fold_code_point expand_code_point chars start_predicate abstract_start_predicate
    bytes_that_pass may_start encode
sound_on root text =
    list_all (λ place. not (has_outcome (outcomes text root rightwards place (no_groups root)))
    || may_start (start_predicate (record { root = root; flags = no_flags })) text place)
    (numbers_from 0 (length text.characters + 1))
