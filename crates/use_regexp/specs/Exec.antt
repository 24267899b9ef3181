-- The match of a search, and `lastIndex` after it (21.2.5.2.2, RegExpBuiltinExec).
use Rattle.std.specs.Prelude.{◌≡◌, ◌≤◌, ℕ, Bool, false, List, Option, IsTrue, if◌then◌else◌, slice_get}
use Rattle.std.specs.Option.{option_map_or}
use Rattle.regex_meaning.specs.Laws.{is_within_pair}
use Rattle.regex_meaning.specs.MatchGroupsByNumberAndName.{Answer}
use Rattle.regress_match.specs.ProgramTreesAndAnswers.{ucs2_answer_beginning_at, ucs2_answers, utf16_answer_beginning_at, utf16_answers}
use Rattle.regress_match.specs.ExpansionsAndMatchRanges.{MatchRangesLieWithinUnits}
use Rattle.use_regexp.specs.Flags.{uses_last_index}
use Rattle.use_regexp.specs.Units.{character_start}
use Rattle.use_regexp.specs.declared.pattern.Pattern.{Pattern}

module _ (p : Pattern) where
  -- The index at which a search begins. It is `lastIndex` with `g` or `y`, and otherwise 0.
  abbrev pub search_index : (last : ℕ) → ℕ
  search_index last = if uses_last_index p.flags then last else 0

  -- `lastIndex` after a search. With `g` or `y` it is the end of the match, or 0 if there is none.
  -- Otherwise it is unchanged.
  abbrev pub last_index_after_search : (last : ℕ) → Option Answer → ℕ
  last_index_after_search last m = if uses_last_index p.flags then option_map_or (λ (a : Answer). a.range.1) m 0
      else last

module _ (p : Pattern) (text : List ℕ) where
  -- The index at which the character at an index begins.
  abbrev pub start_of_character_at : (index : ℕ) → ℕ
  start_of_character_at index = character_start p.flags.unicode text index

  -- The list of matches from an index on. With `u` the text is read as UTF-16, and otherwise as
  -- UCS-2.
  abbrev pub matches_from : (index : ℕ) → List Answer
  matches_from index =
      if p.flags.unicode then utf16_answers p.re text (start_of_character_at index)
      else ucs2_answers p.re text (start_of_character_at index)

  -- The first match from an index on. `None` if there is none.
  unfoldable pub first_match : (index : ℕ) → Option Answer
  first_match index = slice_get (matches_from index) 0

  -- The match that begins at an index. `None` if there is none.
  unfoldable pub match_beginning_at_index : (index : ℕ) → Option Answer
  match_beginning_at_index index =
      if p.flags.unicode then utf16_answer_beginning_at p.re text (start_of_character_at index)
      else ucs2_answer_beginning_at p.re text (start_of_character_at index)

  -- The match of a search. With `y` it is the match that begins at the search index, and otherwise
  -- the first match from there on.
  abbrev pub found : (last : ℕ) → Option Answer
  found last = if p.flags.sticky then match_beginning_at_index (search_index p last)
      else first_match (search_index p last)

  -- A match that a search from an index on finds is a range of the text at this index or later, and
  -- does not end within a surrogate pair.
  pub record IsRangeFromIndexOn (index : ℕ) (m : Answer) : Type 0 where
    pub fits : MatchRangesLieWithinUnits text m
    pub behind : start_of_character_at index ≤ m.range.0
    pub whole : IsTrue p.flags.unicode → is_within_pair text m.range.1 ≡ false
