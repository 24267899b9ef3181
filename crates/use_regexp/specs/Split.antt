-- Splitting of texts at matches (21.2.5.12, RegExp.prototype[@@split]).
use Rattle.std.specs.Prelude.{◌≡◌, ◌⊎◌, ◌<◌, ◌≤◌, ℕ, ◌+◌, ◌-◌, Bool, false, IsTrue, List, [], ◌∷◌, ◌++◌, length, take, Option, Some, None, is_some, option_and_then, if◌then◌else◌, nat_lt, ◌==◌}
use Rattle.std.specs.Bool.{MatchBool}
use Rattle.std.specs.Option.{option_map_or}
use Rattle.regex_meaning.specs.Laws.{is_within_pair}
use Rattle.regex_meaning.specs.MatchGroupsByNumberAndName.{Answer}
use Rattle.regex_meaning.specs.Outcomes.{Groups}
use Rattle.regress_match.specs.ExpansionsAndMatchRanges.{MatchRangesLieWithinUnits}
use Rattle.use_regexp.specs.Exec.{first_match, match_beginning_at_index}
use Rattle.use_regexp.specs.Units.{advanced}
use Rattle.use_regexp.specs.declared.pattern.Pattern.{Pattern}

-- Whether there is a match that ends at this index.
abbrev pub has_match_ending_at : (index : ℕ) → Option Answer → Bool
has_match_ending_at index m = option_map_or (λ (a : Answer). a.range.1 == index) m false

-- The match, if it begins before the end of the text. Otherwise `None`.
abbrev pub match_if_before_end : (text : List ℕ) → Option Answer → Option Answer
match_if_before_end text m = option_and_then (λ (a : Answer). if nat_lt a.range.0 (length text) then Some a else None) m

module _ (p : Pattern) (text : List ℕ) where
  -- With `u`, the index is not within a surrogate pair.
  abbrev pub CutsNoSurrogatePair : (index : ℕ) → Type 0
  CutsNoSurrogatePair index = IsTrue p.flags.unicode → is_within_pair text index ≡ false

  -- The first match from an index on. If it ends at this index, it is the first match from the next
  -- index on.
  abbrev pub chosen : (from : ℕ) → (first : Option Answer) → Option Answer
  chosen from first = if has_match_ending_at from first then first_match p text (advanced p.flags.unicode text from)
      else first

  -- The next separator after the start of a piece. The loop of the standard tries each index before
  -- the end of the text in order, and skips matches that end at the start of the piece, so it finds
  -- this match.
  unfoldable pub separator : (from : ℕ) → Option Answer
  separator from =
      match_if_before_end text (chosen from (first_match p text from))

  -- These are the successive separators after the start of a piece. After them there is no other,
  -- or there are as many pieces as the limit allows. A separator adds one piece, and one for each
  -- of its groups.
  abbrev pub AreSeparators : (from wanted : ℕ) → List Answer → Type 0
  AreSeparators from wanted [] = (separator from ≡ None) ⊎ (wanted ≡ 0)
  AreSeparators from wanted (m ∷ ms) =
      (separator from ≡ Some m) × AreSeparators m.range.1 (wanted - (length m.captures + 1)) ms

  -- The pieces: before each separator the text in front of it, then the groups of the separator,
  -- and last the rest of the text.
  abbrev pub pieces : (from : ℕ) → List Answer → Groups
  pieces from [] = Some (from, length text) ∷ []
  pieces from (m ∷ ms) = Some (from, m.range.0) ∷ (m.captures ++ pieces m.range.1 ms)

  -- The pieces of an empty text. There is none if the pattern matches the empty text.
  abbrev pub pieces_of_empty_text : Groups
  pieces_of_empty_text = if is_some (match_beginning_at_index p text 0) then [] else Some (0, 0) ∷ []

  -- The pieces of a non-empty text, up to the limit.
  abbrev pub ArePieces : (limit : ℕ) → Groups → Type 0
  ArePieces limit made = (ms : List Answer) × AreSeparators 0 limit ms × (made ≡ take limit (pieces 0 ms))

  -- The pieces of a text, up to the limit.
  abbrev pub IsSplit : (limit : ℕ) → Groups → Type 0
  IsSplit limit made = MatchBool (length text == 0) (made ≡ take limit pieces_of_empty_text) (ArePieces limit made)

  -- The separator is a range of the text after the start of the piece, and does not end within a
  -- surrogate pair.
  pub record IsSeparator (from : ℕ) (m : Answer) : Type 0 where
    pub fits : MatchRangesLieWithinUnits text m
    pub behind : CutsNoSurrogatePair from → from ≤ m.range.0
    pub goes_on : CutsNoSurrogatePair from → from < m.range.1
    pub whole : CutsNoSurrogatePair m.range.1
