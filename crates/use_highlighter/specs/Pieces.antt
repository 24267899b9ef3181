-- A text that is split into pieces.
use Rattle.std.specs.Prelude.{◌≡◌, ◌≤◌, ℕ, List, [], ◌∷◌, ◌++◌, Option, Some, map, filter, flat_map, is_some, length, slice_range}
use Rattle.regex_meaning.specs.Laws.{Each}
use Rattle.regex_meaning.specs.MatchGroupsByNumberAndName.{Answer}
use Rattle.regress_match.specs.ExpansionsAndMatchRanges.{IsCharBoundaryRange}
use Rattle.use_highlighter.specs.Tokens.{token_of}
use Rattle.use_highlighter.specs.declared.pieces.Piece.{Piece}

-- The range of a piece in the text, in bytes.
abbrev pub range_of : Piece → ℕ × ℕ
range_of p = (p.start, p.end)

-- The bytes of a piece.
abbrev pub part_of : (text : List ℕ) → Piece → List ℕ
part_of text p = slice_range text p.start p.end

-- The range of the piece begins and ends at character boundaries.
abbrev pub IsSliceOf : (text : List ℕ) → Piece → Type 0
IsSliceOf text p = IsCharBoundaryRange text (range_of p)

-- The pieces are adjacent: the first begins at `from`, each begins where the one before it ends,
-- and the last ends at `to`.
abbrev pub ArePiecesAdjacent : (from : ℕ) → List Piece → (to : ℕ) → Type 0
ArePiecesAdjacent from [] to = from ≡ to
ArePiecesAdjacent from (p ∷ ps) to = (p.start ≡ from) × (p.start ≤ p.end) × ArePiecesAdjacent p.end ps to

-- The range and the token of each piece that is a token.
abbrev pub marked : List Piece → List ((ℕ × ℕ) × Option ℕ)
marked pieces = map (λ p. (range_of p, p.token)) (filter (λ p. is_some p.token) pieces)

-- The range and the token of each match.
abbrev pub token_ranges_of_matches : (names : List (List ℕ)) → List Answer → List ((ℕ × ℕ) × Option ℕ)
token_ranges_of_matches names matches = map (λ m. (m.range, Some (token_of names m))) matches

-- The text is split at these matches. The pieces are adjacent from the start to the end of the
-- text, and their concatenation is the text. The pieces that are tokens are exactly the matches, in
-- order.
pub record IsSplitAtMatches (text : List ℕ) (names : List (List ℕ)) (matches : List Answer) (pieces : List Piece) : Type
    0 where
  pub covered : ArePiecesAdjacent 0 pieces (length text)
  pub together : flat_map (part_of text) pieces ≡ text
  pub tokens : marked pieces ≡ token_ranges_of_matches names matches
  pub slices : Each (IsSliceOf text) pieces
