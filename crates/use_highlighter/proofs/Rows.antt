-- Adjacent pieces, and the pieces of a text that is split at the matches so far.
use Rattle.std.proofs.Common.{◌≡◌, ℕ, ◌≤◌, List, [], ◌∷◌, ◌++◌, length, map, drop, filter, flat_map, refl, ap, sym, ◌∙◌, append_assoc, append-nil, subst}
use Rattle.std.specs.Prelude.{Option, Some, None, is_some}
use Rattle.std.proofs.Math.Seq.{drop-length}
use Rattle.std.proofs.lemmas.List.{map-append}
use Rattle.std.proofs.lemmas.List.Elements.{filter-append}
use Rattle.std.proofs.lemmas.List.Folds.{drop_split}
use Rattle.regex_meaning.specs.Laws.{Each}
use Rattle.regex_meaning.specs.MatchGroupsByNumberAndName.{Answer}
use Rattle.regex_meaning.proofs.EachElementLemmas.{Each-append}
use Rattle.regress_match.specs.ExpansionsAndMatchRanges.{IsCharBoundaryRange}
use Rattle.use_highlighter.specs.Tokens.{token_of}
use Rattle.use_highlighter.specs.Pieces.{range_of, part_of, IsSliceOf, ArePiecesAdjacent, marked, token_ranges_of_matches, IsSplitAtMatches}
use Rattle.use_highlighter.specs.declared.pieces.Piece.{Piece}

abbrev pub piece : (start end : ℕ) → (token : Option ℕ) → Piece
piece start end token = record { start = start; end = end; token = token }

-- The range and the token of a piece.
abbrev mark_of : Piece → (ℕ × ℕ) × Option ℕ
mark_of p = (range_of p, p.token)

-- One more piece.
row-more : (from at to : ℕ) (token : Option ℕ) (ps : List Piece) → ArePiecesAdjacent from ps at → at ≤ to → ArePiecesAdjacent from (ps ++ piece at to token ∷ []) to
row-more from at to token [] row le = (sym row, le, refl)
row-more from at to token (p ∷ ps) row le = (row.0, row.1, row-more p.end at to token ps row.2 le)

-- The concatenation of the pieces is the text between the ends of their row.
row-together : (text : List ℕ) (from to : ℕ) (ps : List Piece) → ArePiecesAdjacent from ps to → flat_map (part_of text) ps ++ drop to text ≡ drop from text
row-together text from to [] row = ap (λ n. drop n text) (sym row)
row-together text from to (p ∷ ps) row =
    append_assoc (part_of text p) (flat_map (part_of text) ps) (drop to text)
    ∙ ap (λ bs. part_of text p ++ bs) (row-together text p.end to ps row.2)
    ∙ sym (drop_split text p.start p.end row.1)
    ∙ ap (λ n. drop n text) row.0

marked-more : (ps : List Piece) (start end token : ℕ) → marked (ps ++ piece start end (Some token) ∷ []) ≡ marked ps ++ ((start, end), Some token) ∷ []
marked-more ps start end token = ap (map mark_of) (filter-append (λ p. is_some p.token) ps _) ∙ map-append mark_of (filter (λ p. is_some p.token) ps) _

unmarked-more : (ps : List Piece) (start end : ℕ) → marked (ps ++ piece start end None ∷ []) ≡ marked ps
unmarked-more ps start end = ap (map mark_of) (filter-append (λ p. is_some p.token) ps _ ∙ append-nil _)

-- The pieces so far cover the text up to an offset. Their tokens, followed by the remaining
-- matches, are all matches.
pub record IsCutTo (text : List ℕ) (names : List (List ℕ)) (matches left : List Answer) (to : ℕ) (pieces : List Piece) : Type 0 where
  pub row : ArePiecesAdjacent 0 pieces to
  pub tokens : marked pieces ++ token_ranges_of_matches names left ≡ token_ranges_of_matches names matches
  pub slices : Each (IsSliceOf text) pieces

module _ (text : List ℕ) (names : List (List ℕ)) (matches : List Answer) where
  -- There is no piece yet.
  pub cut-none : (left : List Answer) (pieces : List Piece) → left ≡ matches → pieces ≡ [] → IsCutTo text names matches left 0 pieces
  cut-none left pieces e none = subst (IsCutTo text names matches left 0) (sym none) record { row = refl; tokens = ap (token_ranges_of_matches names) e; slices = tt }

  -- The text before a match, and the match.
  pub cut-more : (left rest : List Answer) (m : Answer) (from to token : ℕ) (pieces first both : List Piece) → IsCutTo text names matches left from pieces
      → left ≡ m ∷ rest → IsCharBoundaryRange text (from, m.range.0) → IsCharBoundaryRange text m.range → to ≡ m.range.1 → token ≡ token_of names m
      → first ≡ pieces ++ piece from m.range.0 None ∷ [] → both ≡ first ++ piece m.range.0 m.range.1 (Some token) ∷ []
      → IsCutTo text names matches rest to both
  cut-more left rest m from to token pieces first both cut l before whole t n f b =
      let gap = piece from m.range.0 None in
      let here = piece m.range.0 m.range.1 (Some token) in
      subst (λ n. IsCutTo text names matches rest n both) (sym t) (subst (IsCutTo text names matches rest m.range.1) (sym (b ∙ ap (λ (ps : List Piece). ps ++ here ∷ []) f)) record {
        row = row-more 0 m.range.0 m.range.1 (Some token) _ (row-more 0 from m.range.0 None pieces cut.row before.0) whole.0;
        tokens =
            ap (λ (rs : List ((ℕ × ℕ) × Option ℕ)). rs ++ token_ranges_of_matches names rest)
            (marked-more (pieces ++ gap ∷ []) m.range.0 m.range.1 token ∙ ap (λ (rs : List ((ℕ × ℕ) × Option ℕ)). rs ++ (m.range, Some token) ∷ []) (unmarked-more pieces from m.range.0))
            ∙ append_assoc (marked pieces) ((m.range, Some token) ∷ []) (token_ranges_of_matches names rest)
            ∙ ap (λ k. marked pieces ++ (m.range, Some k) ∷ token_ranges_of_matches names rest) n
            ∙ ap (λ (ms : List Answer). marked pieces ++ token_ranges_of_matches names ms) (sym l) ∙ cut.tokens;
        slices = Each-append (IsSliceOf text) (pieces ++ gap ∷ []) _ (Each-append (IsSliceOf text) pieces _ cut.slices (before, tt)) (whole, tt);
      })

  -- The rest of the text.
  pub cut-rest : (left : List Answer) (from : ℕ) (pieces all : List Piece) → IsCutTo text names matches left from pieces
      → left ≡ [] → IsCharBoundaryRange text (from, length text) → all ≡ pieces ++ piece from (length text) None ∷ [] → IsSplitAtMatches text names matches all
  cut-rest left from pieces all cut l rest a =
      let row = row-more 0 from (length text) None pieces cut.row rest.0 in
      subst (IsSplitAtMatches text names matches) (sym a) record {
        covered = row;
        together = sym (append-nil _) ∙ ap (λ bs. flat_map (part_of text) (pieces ++ piece from (length text) None ∷ []) ++ bs) (sym (drop-length text)) ∙ row-together text 0 (length text) _ row;
        tokens = unmarked-more pieces from (length text) ∙ sym (append-nil _) ∙ ap (λ (ms : List Answer). marked pieces ++ token_ranges_of_matches names ms) (sym l) ∙ cut.tokens;
        slices = Each-append (IsSliceOf text) pieces _ cut.slices (rest, tt);
      }
