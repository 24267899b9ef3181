-- The answer of a search from an offset, and the offset where the list of answers continues.
use Rattle.std.specs.Prelude.{ℕ, List, [], ◌∷◌, option_map, option_and_then, Option}
use Rattle.std.specs.Option.{option_map_or}
use Rattle.regex_meaning.specs.Tree.{Node}
use Rattle.regex_meaning.specs.Text.{Text}
use Rattle.regex_meaning.specs.CodeUnitOffsets.{offset, place_at}
use Rattle.regex_meaning.specs.FirstAndAllMatches.{Found, first_match, match_at, place_after_match}
use Rattle.regex_meaning.specs.MatchGroupsByNumberAndName.{Answer, answer, answers_from}

module _ (root : Node) (text : Text) where
  -- The first match from an offset on. `None` if there is no match, or if the offset is not a
  -- boundary or is past the end.
  abbrev pub first_found : (start : ℕ) → Option Found
  first_found start = option_and_then (first_match root text) (place_at text start)

  -- The first match from an offset on, as an answer.
  abbrev pub first_answer : (start : ℕ) → Option Answer
  first_answer start = option_map (answer root text) (first_found start)

  -- The match of highest priority that begins at an offset, as an answer (21.2.5.2.2 with the flag
  -- `y`). `None` if there is no match, or if the offset is not a boundary or is past the end.
  abbrev pub answer_at : (at : ℕ) → Option Answer
  answer_at at = option_map (answer root text) (option_and_then (match_at root text) (place_at text at))

  -- The offset at which the list continues after the first match.
  abbrev pub next_start : (start : ℕ) → Option ℕ
  next_start start = option_map (offset text) (option_and_then (place_after_match root text) (first_found start))

  -- The answers from an offset on. Empty if there is no offset.
  abbrev pub answers_on : (next : Option ℕ) → List Answer
  answers_on next = option_map_or (answers_from root text) next []

  -- An answer, if there is one, followed by the answers from the offset where the list continues.
  abbrev pub answer_then_list : Option Answer → (next : Option ℕ) → List Answer
  answer_then_list first next = option_map_or (λ m. m ∷ answers_on next) first []
