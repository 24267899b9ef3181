-- The loop over all matches (21.2.5.7 and 21.2.5.9).
use Rattle.std.specs.Prelude.{◌≡◌, ℕ, List, [], ◌∷◌, Option, Some, None, if◌then◌else◌, ◌==◌}
use Rattle.std.specs.Bool.{MatchBool}
use Rattle.std.specs.Option.{option_to_list}
use Rattle.regex_meaning.specs.MatchGroupsByNumberAndName.{Answer}
use Rattle.use_regexp.specs.Exec.{found, last_index_after_search}
use Rattle.use_regexp.specs.Units.{advanced}
use Rattle.use_regexp.specs.declared.pattern.Pattern.{Pattern}
use Rattle.use_regexp.specs.declared.regexp.RegExp.{RegExp}

module _ (p : Pattern) (text : List ℕ) where
  -- The index at which the loop continues after a match: the end of the match, or one character
  -- further if it is empty.
  abbrev pub index_after_match : Answer → ℕ
  index_after_match m = if m.range.0 == m.range.1 then advanced p.flags.unicode text m.range.1 else m.range.1

  -- Successive searches, the first one from `last` on, find these matches, and then no other match.
  abbrev pub AreSuccessiveSearchResults : (last : ℕ) → List Answer → Type 0
  AreSuccessiveSearchResults last [] = found p text last ≡ None
  AreSuccessiveSearchResults last (m ∷ ms) = (found p text last ≡ Some m)
      × AreSuccessiveSearchResults (index_after_match m) ms

  -- With `g`, the matches are all matches from `first` on. Otherwise they are the match of a single
  -- search, if there is one.
  abbrev pub AreMatchesOfCall : (first last : ℕ) → List Answer → Type 0
  AreMatchesOfCall first last ms =
      MatchBool p.flags.global (AreSuccessiveSearchResults first ms) (ms ≡ option_to_list (found p text last))

  -- `lastIndex` after these matches. With `g` it is 0, because the last search has found no match.
  abbrev pub last_index_after_matches : (last : ℕ) → ℕ
  last_index_after_matches last = if p.flags.global then 0 else last_index_after_search p last (found p text last)

-- The `lastIndex` of the object after the call has this value.
abbrev pub SetsLastIndexAfterMatches : (before after : RegExp) → (text : List ℕ) → Type 0
SetsLastIndexAfterMatches before after text =
    after.last_index ≡ last_index_after_matches before.pattern text before.last_index
