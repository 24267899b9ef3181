-- Expansions of replacements, and conditions on the ranges of matches.
use Rattle.std.specs.Prelude.{◌≤◌, ℕ, List, [], ◌∷◌, length, map, IsCharBoundary, IfSome}
use Rattle.regex_meaning.specs.Laws.{Each}
use Rattle.regex_meaning.specs.MatchGroupsByNumberAndName.{Answer}
use Rattle.regex_meaning.specs.Replace.{expansion}

-- Each match with the expansion of the replacement for it.
abbrev pub matches_with_expansions : (text replacement : List ℕ) → List Answer → List (Answer × List ℕ)
matches_with_expansions text replacement answers = map (λ m. (m, expansion text m replacement)) answers

-- The range is in order, and both of its ends are character boundaries of the text.
abbrev pub IsCharBoundaryRange : (text : List ℕ) → ℕ × ℕ → Type 0
IsCharBoundaryRange text range = (range.0 ≤ range.1) × IsCharBoundary text range.0 × IsCharBoundary text range.1

-- The range of the match and the ranges of its groups are slices of the text.
pub record MatchFitsText (text : List ℕ) (m : Answer) : Type 0 where
  pub whole : IsCharBoundaryRange text m.range
  pub groups : Each (λ g. IfSome g (IsCharBoundaryRange text)) m.captures

-- Each match fits the text, and begins no earlier than `from` or the end of the match before it.
abbrev pub MatchesFitTextInOrderFrom : (text : List ℕ) → (from : ℕ) → List Answer → Type 0
MatchesFitTextInOrderFrom text from [] = Unit {0}
MatchesFitTextInOrderFrom text from (m ∷ ms) = (from ≤ m.range.0) × MatchFitsText text m
    × MatchesFitTextInOrderFrom text m.range.1 ms

-- The range lies within the code units of a text.
abbrev pub IsRangeWithinUnits : (units : List ℕ) → ℕ × ℕ → Type 0
IsRangeWithinUnits units range = (range.0 ≤ range.1) × (range.1 ≤ length units)

-- The range of the match and the ranges of its groups lie within the code units of a text.
pub record MatchRangesLieWithinUnits (units : List ℕ) (m : Answer) : Type 0 where
  pub whole : IsRangeWithinUnits units m.range
  pub groups : Each (λ g. IfSome g (IsRangeWithinUnits units)) m.captures
