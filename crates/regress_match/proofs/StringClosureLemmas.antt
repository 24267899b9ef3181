-- Replacing one match after another by the text of a closure yields the replaced text.
use Rattle.std.proofs.Common.{◌≡◌, ℕ, suc, List, [], ◌∷◌, ◌++◌, drop, refl, sym, ap, ◌∙◌, arith, append_assoc, map, subst, take}
use Rattle.std.specs.Prelude.{slice_range}
use Rattle.std.specs.Borrow.{Bor}
use Rattle.std.specs.List.{Contains}
use Rattle.regex_meaning.specs.Laws.{AreAscendingDisjointAnswersFrom}
use Rattle.regex_meaning.specs.MatchGroupsByNumberAndName.{Answer}
use Rattle.regex_meaning.specs.Replace.{replaced}
use Rattle.regress_search.specs.MatchesAsSpecAnswers.{answer_of}
use Rattle.regress_search.specs.declared.exec.Match.{Match}
use Rattle.regress_match.specs.StringClosures.{ClosureCanBeCalled}

-- If matches are ascending and disjoint, so is the first one alone.
pub first-stands : (from : ℕ) (ms : List Answer) → AreAscendingDisjointAnswersFrom from ms → AreAscendingDisjointAnswersFrom from (take 1 ms)
first-stands from [] h = tt
first-stands from (m ∷ ms) h = (h.0, h.1, tt)

-- ---- Closures that may be called at all matches

-- A closure that may be called at all matches may be called at the remaining ones.
pub callable-all : (takes : Bor Match → Type 0) (left all : List Answer) → ClosureCanBeCalled takes all → left ≡ all → ClosureCanBeCalled takes left
callable-all takes left all h e = subst (ClosureCanBeCalled takes) (sym e) h

-- A closure may be called at the next match.
pub callable-next : (takes : Bor Match → Type 0) (left rest : List Answer) (found : Bor Match) → ClosureCanBeCalled takes left → left ≡ answer_of found.now ∷ rest → takes found
callable-next takes left rest found h e = h found (subst (λ ms. Contains ms (answer_of found.now)) (sym e) (0, omega arith, refl))

-- A closure may be called at the matches behind the next one.
pub callable-rest : (takes : Bor Match → Type 0) (left rest : List Answer) (m : Answer) → ClosureCanBeCalled takes left → left ≡ m ∷ rest → ClosureCanBeCalled takes rest
callable-rest takes left rest m h e = λ found among. h found (subst (λ ms. Contains ms (answer_of found.now)) (sym e) (suc among.0, omega (arith, among.1), among.2))

-- ---- Replaced text

module _ (text : List ℕ) (says : Answer → List ℕ) where
  -- Each match is paired with the text that the closure gives for it.
  abbrev said : List Answer → List (Answer × List ℕ)
  said ms = map (λ m. (m, says m)) ms

  -- After a match is replaced, the text and the replaced rest still give the whole.
  pub replaced-more : (made reached next whole : List ℕ) (from to : ℕ) (left rest : List Answer) (m : Answer)
      → made ++ replaced text from (said left) ≡ whole → left ≡ m ∷ rest
      → reached ≡ made ++ slice_range text from m.range.0 → next ≡ reached ++ says m → to ≡ m.range.1
      → next ++ replaced text to (said rest) ≡ whole
  unfolding replaced
  replaced-more made reached next whole from to left rest m e l r n t =
      rw (n, r, t)
      (append_assoc (made ++ slice_range text from m.range.0) (says m) _
      ∙ append_assoc made (slice_range text from m.range.0) _
      ∙ ap (λ ms. made ++ replaced text from (said ms)) (sym l) ∙ e)

  pub replaced-end : (made final whole : List ℕ) (from : ℕ) (left : List Answer)
      → made ++ replaced text from (said left) ≡ whole → left ≡ [] → final ≡ made ++ drop from text → final ≡ whole
  unfolding replaced
  replaced-end made final whole from left e l f = f ∙ ap (λ ms. made ++ replaced text from (said ms)) (sym l) ∙ e
