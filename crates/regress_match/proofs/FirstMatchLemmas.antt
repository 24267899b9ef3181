-- The first match from an offset on, and the match that begins at an offset, lie in the text.
use Rattle.std.proofs.Common.{◌≡◌, ℕ, ◌+◌, ◌≤◌, List, [], ◌∷◌, length, Bool, true, false, refl, sym, ◌∙◌, ap, ap₂, subst, arith, le_refl}
use Rattle.std.specs.Prelude.{◌==◌, Option, Some, None, IfSome, option_map, option_and_then, if◌then◌else◌, slice_get}
use Rattle.regex_meaning.specs.Tree.{Node, Tree}
use Rattle.regex_pattern_front.specs.AstToSpecTree.{tree_of}
use Rattle.regex_pattern_front.specs.declared.ir.Regex.{Regex}
use Rattle.regex_meaning.specs.Text.{Text, last_place}
use Rattle.regex_meaning.specs.CodeUnitOffsets.{IsBoundary, HasRisingPlaceOffsets, units}
use Rattle.regex_meaning.specs.MatchGroupsByNumberAndName.{Answer, answers_from}
use Rattle.regex_meaning.specs.SearchAnswers.{answer_at, answer_then_list, answers_on, first_answer, next_start}
use Rattle.regex_meaning.specs.Laws.{Each, IsWellFormedAnswerFor, IsRangeOfWholeCharacters}
use Rattle.regex_meaning.proofs.SearchAnswersLemmas.{answers-go_on, first_answer-stands}
use Rattle.regex_meaning.proofs.MatchAtOffsetLemmas.{matches_at-first}
use Rattle.regex_meaning.proofs.MatchOrderLemmas.{answers-IsWellFormedAnswerFor}
use Rattle.regex_meaning.proofs.CodeUnitOffsetsLemmas.{IsBoundary-place, offset-le}
use Rattle.regress_search.specs.MatchesAsSpecAnswers.{answer_of}
use Rattle.regress_search.specs.declared.exec.Match.{Match}
use Rattle.regress_match.specs.ExpansionsAndMatchRanges.{MatchFitsText, MatchRangesLieWithinUnits, IsRangeWithinUnits, MatchesFitTextInOrderFrom}

module _ (root : Node) (text : Text) (is : HasRisingPlaceOffsets text) where
  -- The first answer is the head of the list of answers.
  first-heads : (start : ℕ) (m : Answer) → first_answer root text start ≡ Some m
      → answers_from root text start ≡ m ∷ answers_on root text (next_start root text start)
  first-heads start m e = answers-go_on root text is start ∙ ap (λ f. answer_then_list root text f (next_start root text start)) e

  -- A match at an offset is the first answer from that offset on.
  pub at-first : (at : ℕ) (m : Answer) → answer_at root text at ≡ Some m → first_answer root text at ≡ Some m
  at-first at m e = by (first_answer root text at) refl (sym (matches_at-first root text is at) ∙ e)
    where
      begins : (b : Bool) (n : Answer) → (if b then Some n else None) ≡ Some m → Some n ≡ Some m
      begins true n e = e
      begins false n e = cc

      by : (o : Option Answer) → first_answer root text at ≡ o → option_and_then (λ (n : Answer). if n.range.0 == at then Some n else None) o ≡ Some m
          → first_answer root text at ≡ Some m
      by None q e = cc
      by (Some n) q e = q ∙ begins (n.range.0 == at) n e

  pub boundary-within : (at : ℕ) → IsBoundary text at → at ≤ units text
  boundary-within at on =
      let place = IsBoundary-place text at is on in
      let le = offset-le text place.0 (last_place text) is place.3 (le_refl (last_place text)) in
      omega (arith, le, place.2)

  -- ---- Text of 16-bit units

  module _ (us : List ℕ) (size : units text ≡ length us) where
    within : (range : ℕ × ℕ) → IsRangeOfWholeCharacters text range → IsRangeWithinUnits us range
    within range h = (h.0, let le = boundary-within range.1 h.2 in omega (arith, le, size))

    all-within : (groups : List (Option (ℕ × ℕ))) → Each (λ g. IfSome g (IsRangeOfWholeCharacters text)) groups → Each (λ g. IfSome g (IsRangeWithinUnits us)) groups
    all-within [] h = tt
    all-within (None ∷ groups) h = (tt, all-within groups h.1)
    all-within (Some range ∷ groups) h = (within range h.0, all-within groups h.1)

    -- The first match from an offset on lies within the text's units.
    pub first-fits_units : (start : ℕ) (m : Answer) → first_answer root text start ≡ Some m → MatchRangesLieWithinUnits us m
    first-fits_units start m e =
        let answer = (subst (Each (IsWellFormedAnswerFor root text)) (first-heads start m e) (answers-IsWellFormedAnswerFor root text is start)).0 in
        record { whole = within m.range answer.whole; groups = all-within m.captures answer.groups }

    pub found-fits_units : (start : ℕ) (found : Option Match) → option_map answer_of found ≡ first_answer root text start
        → IfSome found (λ m. MatchRangesLieWithinUnits us (answer_of m))
    found-fits_units start None e = tt
    found-fits_units start (Some m) e = first-fits_units start (answer_of m) (sym e)

    -- A match at an offset lies within the text's units.
    pub at-fits_units : (at : ℕ) (found : Option Match) → option_map answer_of found ≡ answer_at root text at
        → IfSome found (λ m. MatchRangesLieWithinUnits us (answer_of m))
    at-fits_units at None e = tt
    at-fits_units at (Some m) e = first-fits_units at (answer_of m) (at-first at (answer_of m) (sym e))

  -- A match at an offset lies on character boundaries if the answers from there do.
  pub at-fits_text : (bytes : List ℕ) (at : ℕ) (found : Option Match) → MatchesFitTextInOrderFrom bytes at (answers_from root text at) → option_map answer_of found ≡ answer_at root text at
      → IfSome found (λ m. MatchFitsText bytes (answer_of m))
  at-fits_text bytes at None stand e = tt
  at-fits_text bytes at (Some m) stand e = (subst (MatchesFitTextInOrderFrom bytes at) (first-heads at (answer_of m) (at-first at (answer_of m) (sym e))) stand).1

-- A match that an executor finds at an offset is the answer of the pattern's tree there.
pub at-found : (make : Bool → Text) (re program : Regex) (tree : Tree) (text : Text) (at : ℕ) (found : Option Answer) → tree ≡ tree_of program
    → text ≡ make (tree_of program).flags.unicode → program ≡ re → found ≡ answer_at tree.root text at → found ≡ answer_at (tree_of re).root (make (tree_of re).flags.unicode) at
at-found make re program tree text at found is_tree is_text same e =
    e ∙ ap₂ (λ (t : Tree) (x : Text). answer_at t.root x at) is_tree is_text ∙ ap (λ re. answer_at (tree_of re).root (make (tree_of re).flags.unicode) at) same

-- The head of the list of answers is the first answer.
pub head-first : (root : Node) (text : Text) (is : HasRisingPlaceOffsets text) (start : ℕ) → slice_get (answers_from root text start) 0 ≡ first_answer root text start
head-first root text is start = ap (λ ms. slice_get ms 0) (answers-go_on root text is start) ∙ by (first_answer root text start)
  where
    by : (first : Option Answer) → slice_get (answer_then_list root text first (next_start root text start)) 0 ≡ first
    by None = refl
    by (Some m) = refl
