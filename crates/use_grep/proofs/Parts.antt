-- The parts of a line that matches cover, and the painted line, one more match at a time.
use Rattle.std.proofs.Common.{◌≡◌, ℕ, List, [], ◌∷◌, ◌++◌, ap, drop, sym, ◌∙◌, append_assoc}
use Rattle.std.specs.Prelude.{slice_range}
use Rattle.regex_meaning.specs.MatchGroupsByNumberAndName.{Answer}
use Rattle.regex_meaning.specs.Replace.{replaced}
use Rattle.use_grep.specs.Selecting.{colored_from, matched_parts, painted_part}

-- One more part, that of the next match.
pub parts-more : (line : List ℕ) (whole done more : List (ℕ × List ℕ)) (left rest : List Answer) (m : Answer) (start : ℕ) (part : List ℕ)
    → done ++ matched_parts line left ≡ whole → left ≡ m ∷ rest → start ≡ m.range.0 → part ≡ slice_range line m.range.0 m.range.1
    → more ≡ done ++ (start, part) ∷ []
    → more ++ matched_parts line rest ≡ whole
parts-more line whole done more left rest m start part so_far next at is e =
    ap (λ parts. parts ++ matched_parts line rest) (e ∙ ap (λ s. done ++ (s, part) ∷ []) at ∙ ap (λ p. done ++ (m.range.0, p) ∷ []) is)
    ∙ append_assoc done ((m.range.0, slice_range line m.range.0 m.range.1) ∷ []) (matched_parts line rest)
    ∙ ap (λ ms. done ++ matched_parts line ms) (sym next)
    ∙ so_far

module _ (line start end : List ℕ) where
  -- The output together with the remaining matches is the whole result. This is preserved when a
  -- match is written.
  pub painted-more : (made next whole : List ℕ) (from to : ℕ) (left rest : List Answer) (m : Answer)
      → made ++ colored_from line start end from left ≡ whole → left ≡ m ∷ rest
      → next ≡ made ++ (slice_range line from m.range.0 ++ painted_part line start end m) → to ≡ m.range.1
      → next ++ colored_from line start end to rest ≡ whole
  unfolding replaced
  painted-more made next whole from to left rest m e l n t =
      rw (n, t)
      (append_assoc made (slice_range line from m.range.0 ++ painted_part line start end m) _
      ∙ ap (λ bs. made ++ bs) (append_assoc (slice_range line from m.range.0) (painted_part line start end m) _)
      ∙ ap (λ ms. made ++ colored_from line start end from ms) (sym l) ∙ e)

  pub painted-end : (made final whole : List ℕ) (from : ℕ) (left : List Answer)
      → made ++ colored_from line start end from left ≡ whole → left ≡ [] → final ≡ made ++ drop from line → final ≡ whole
  unfolding replaced
  painted-end made final whole from left e l f = f ∙ ap (λ ms. made ++ colored_from line start end from ms) (sym l) ∙ e
