-- What a search yields: the matches of the tree that its program runs. The main theorem,
-- `SearchesReturnMatchesOfPattern` (`Laws`), says that these are the matches of the pattern.
use Rattle.std.specs.Prelude.{◌≡◌, ℕ, List, [], ◌∷◌, false, Option, Some, None, Result, Ok, Err}
use Rattle.regex_meaning.specs.Tree.{Tree}
use Rattle.regex_meaning.specs.Text.{Text}
use Rattle.regex_meaning.specs.CodeUnitOffsets.{units}
use Rattle.regex_meaning.specs.MatchGroupsByNumberAndName.{Answer, answers_from}
use Rattle.regress_search.specs.MatchesAsSpecAnswers.{answer_of}
use Rattle.regress_search.specs.RemainingAnswers.{RemainingView, NextYields}
use Rattle.regress_search.specs.declared.exec.Match.{Match}
use Rattle.regress_search.specs.declared.exec.SearchError.{SearchError}
use Rattle.regress_match.specs.CompileErrors.{IsOutOfMemory}

-- The remaining matches of a search from `start` are exactly the tree's list of matches in the
-- text: the leftmost match of highest priority, with its end and all groups, and then the matches
-- after it. No step limit ends the list.
pub record YieldsMatches (tree : Tree) (text : Text) (start : ℕ) (it : RemainingView) : Type 0 where
  pub answers : it.answers ≡ answers_from tree.root text start
  pub unlimited : it.limited ≡ false
  pub text_end : it.text_end ≡ units text

-- ---- Results of calls of `next`

-- The result of one call of `next`.
abbrev pub NextResult : Type 0
NextResult = Option (Result Match SearchError)

-- Successive calls of `next` return these results. The iterator's view is `before` at first and
-- `behind` at the end.
abbrev pub NextCallsYield : (before : RemainingView) → List NextResult → (behind : RemainingView) → Type 0
NextCallsYield before [] behind = behind ≡ before
NextCallsYield before (r ∷ rs) behind = (next : RemainingView) × NextYields before r next
    × NextCallsYield next rs behind

-- All results are `None`.
abbrev pub AreAllResultsNone : {A : Type 0} → List (Option A) → Type 0
AreAllResultsNone [] = Unit {0}
AreAllResultsNone (r ∷ rs) = (r ≡ None) × AreAllResultsNone rs

-- The results are the matches of the list, one after another, and then `None` for good. The only error is
-- `Memory`: the matches before it are a prefix of the list, and `None` follows it for good.
abbrev pub ResultsAreMatchesInOrder : List Answer → List NextResult → Type 0
ResultsAreMatchesInOrder matches [] = Unit {0}
ResultsAreMatchesInOrder matches (Some (Ok m) ∷ rs) = (rest : List Answer) × (matches ≡ answer_of m ∷ rest)
    × ResultsAreMatchesInOrder rest rs
ResultsAreMatchesInOrder matches (None ∷ rs) = (matches ≡ []) × AreAllResultsNone rs
ResultsAreMatchesInOrder matches (Some (Err e) ∷ rs) = IsOutOfMemory e × AreAllResultsNone rs

-- The results of a search, for any number of calls.
abbrev pub SearchesReturnMatchesInOrder : Type 0
SearchesReturnMatchesInOrder =
    (tree : Tree) (text : Text) (start : ℕ) (it behind : RemainingView) (rs : List NextResult)
    → YieldsMatches tree text start it → NextCallsYield it rs behind
    → ResultsAreMatchesInOrder (answers_from tree.root text start) rs
