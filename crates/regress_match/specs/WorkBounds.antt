-- Work bounds of patterns, and what a search within a work budget yields.
use Rattle.std.specs.Prelude.{◌≡◌, ◌≤◌, ◌<◌, ◌+◌, ◌*◌, ◌⊎◌, ℕ, List, [], ◌∷◌, Option, Some, None, Result, Ok, Err, if◌then◌else◌, nat_lt}
use Rattle.regex_meaning.specs.Laws.{Each}
use Rattle.regex_meaning.specs.MatchGroupsByNumberAndName.{Answer, answers_from}
use Rattle.regex_meaning.specs.Text.{Text}
use Rattle.regex_meaning.specs.Tree.{Tree}
use Rattle.regress_search.specs.MatchesAsSpecAnswers.{answer_of}
use Rattle.regress_search.specs.MatchesWithinWork.{RemainingAnswersAndWork, NextYieldsWithinWork}
use Rattle.regress_search.specs.CostsOfSearches.{Failures, WorkCosts}
use Rattle.regress_search.specs.CostsOfCalls.{NextCallCosts, NextYieldsAtCost, WorkMatchesView, without_costs}
use Rattle.regress_search.specs.declared.exec.Match.{Match}
use Rattle.regress_search.specs.declared.exec.work_matches.WorkError.{WorkError}
use Rattle.regress_search.specs.declared.exec.work_matches.WorkError.TheVariants.{Memory, WorkLimit}
use Rattle.regress_program.specs.CompilationOfTreesAsFunction.{compiled}
use Rattle.regress_bounded.specs.WorkBoundForAllMatches.{TreeHasWorkBound, program_size}
pub use Rattle.regress_bounded.specs.WorkBoundForAllMatches.{YieldsMatchesIfWorkSuffices, enough_work_for_text}
use Rattle.regress_bounded.specs.Unboundedness.{HasOnlySimpleLookarounds, IsReasonForUnboundedness}
use Rattle.regress_bounded.specs.declared.work_bound.Unbounded.{Unbounded}
use Rattle.regress_bounded.specs.declared.work_bound.WorkBound.{WorkBound}
use Rattle.regress_match.specs.declared.api.regex.Regex.{Regex}
use Rattle.regress_match.specs.SearchResults.{AreAllResultsNone}
use Rattle.regress_match.specs.ProgramTreesAndAnswers.{tree_for_byte_units, tree_for_16_bit_units}

-- ---- Bounds

-- A pattern and its work per unit. In any encoding, `per_unit` × (n + 1) work suffices for a text
-- of n units.
pub record BoundedView : Type 0 where
  pub re : Regex
  pub per_unit : ℕ

-- The greater of two numbers.
abbrev pub max_of_two : ℕ → ℕ → ℕ
max_of_two a b = if nat_lt a b then b else a

-- The greater of the bounds for texts of bytes and for texts of 16-bit code units.
abbrev pub higher_bound_of : (bytes units : WorkBound) → ℕ
higher_bound_of bytes units = max_of_two bytes.per_unit units.per_unit

-- The bounds are those of the pattern's two programs.
pub record AreWorkBoundsOfBothPrograms (re : Regex) (bytes units : WorkBound) : Type 0 where
  pub bound_for_bytes : TreeHasWorkBound (tree_for_byte_units re) bytes
  pub bound_for_units : TreeHasWorkBound (tree_for_16_bit_units re) units

-- `per_unit` is the greater of the bounds of the pattern's two programs.
abbrev pub IsHigherOfProgramWorkBounds : Regex → ℕ → Type 0
IsHigherOfProgramWorkBounds re per_unit = (bytes : WorkBound) × (units : WorkBound)
    × AreWorkBoundsOfBothPrograms re bytes units
    × (per_unit ≡ higher_bound_of bytes units)

-- Neither tree of the pattern has a backreference, or a lookaround whose contents repeat or join.
pub record BothTreesHaveOnlySimpleLookarounds (re : Regex) : Type 0 where
  pub units : HasOnlySimpleLookarounds (tree_for_16_bit_units re)
  pub bytes : HasOnlySimpleLookarounds (tree_for_byte_units re)

-- When a pattern has no work bound for this reason. Either the reason holds for its tree for 16-bit
-- units, which is the tree of the pattern as written. Or that tree has a bound, and the reason
-- holds for its tree for bytes.
abbrev pub IsPatternUnboundedBy : Regex → Unbounded → Type 0
IsPatternUnboundedBy re reason = IsReasonForUnboundedness (tree_for_16_bit_units re) reason
    ⊎ (HasOnlySimpleLookarounds (tree_for_16_bit_units re)
    × IsReasonForUnboundedness (tree_for_byte_units re) reason)

-- A number that no bound of the pattern exceeds, computed from its two programs: 64 for each unit
-- of the greater program size, for each of the up to 64 codes of an instruction.
abbrev pub work_per_unit_limit : Regex → ℕ
work_per_unit_limit re = 64 * (64 * max_of_two (program_size (compiled (tree_for_byte_units re)))
    (program_size (compiled (tree_for_16_bit_units re))))

-- For each bound of the pattern that a search may have, this much work per unit of the text, and
-- once more, suffices.
abbrev pub WorkPerUnitLimitSuffices : Type 0
WorkPerUnitLimitSuffices = (re : Regex) (per_unit : ℕ) → IsHigherOfProgramWorkBounds re per_unit
    → (per_unit ≤ work_per_unit_limit re) × ((text : Text)
    → enough_work_for_text per_unit text ≤ enough_work_for_text (work_per_unit_limit re) text)

-- ---- Results of calls of `next`

-- The result of one call of `next`.
abbrev pub WorkLimitedNextResult : Type 0
WorkLimitedNextResult = Option (Result Match WorkError)

-- Successive calls of `next` return these results. The iterator's view is `before` at first and
-- `behind` at the end.
abbrev pub NextCallsYieldWithinWork : (before : RemainingAnswersAndWork) → List WorkLimitedNextResult
    → (behind : RemainingAnswersAndWork) → Type 0
NextCallsYieldWithinWork before [] behind = behind ≡ before
NextCallsYieldWithinWork before (r ∷ rs) behind = (next : RemainingAnswersAndWork) × NextYieldsWithinWork before r next
    × NextCallsYieldWithinWork next rs behind

-- The results are the matches of the list, one after another. After the last match or an error, and
-- only then, each call returns `None`. The error is `Memory`, or `WorkLimit` if `too_little` holds.
abbrev pub ResultsAreMatchesWithinWork : (too_little : Type 0) → List Answer → List WorkLimitedNextResult → Type 0
ResultsAreMatchesWithinWork too_little matches [] = Unit {0}
ResultsAreMatchesWithinWork too_little matches (Some (Ok m) ∷ rs) =
    (rest : List Answer) × (matches ≡ answer_of m ∷ rest) × ResultsAreMatchesWithinWork too_little rest rs
ResultsAreMatchesWithinWork too_little matches (None ∷ rs) = (matches ≡ []) × AreAllResultsNone rs
ResultsAreMatchesWithinWork too_little matches (Some (Err Memory) ∷ rs) = AreAllResultsNone rs
ResultsAreMatchesWithinWork too_little matches (Some (Err WorkLimit) ∷ rs) = too_little × AreAllResultsNone rs

-- The results of a search within a work budget, for any number of calls. The work that is left
-- never exceeds the budget.
abbrev pub SearchesReturnMatchesWithinWork : Type 0
SearchesReturnMatchesWithinWork = (tree : Tree) (text : Text) (start per_unit work : ℕ)
    (it behind : RemainingAnswersAndWork) (rs : List WorkLimitedNextResult)
    → YieldsMatchesIfWorkSuffices tree text start per_unit work it → NextCallsYieldWithinWork it rs behind
    → ResultsAreMatchesWithinWork (work < enough_work_for_text per_unit text) (answers_from tree.root text start) rs
    × (behind.left ≤ work)

-- ---- Costs of calls of `next`

-- The result is not an allocation failure.
abbrev pub IsNoAllocationFailure : WorkLimitedNextResult → Type 0
IsNoAllocationFailure (Some (Err Memory)) = ⊥
IsNoAllocationFailure _ = Unit {0}

-- The result is not an error.
abbrev pub IsNoError : WorkLimitedNextResult → Type 0
IsNoError (Some (Err e)) = ⊥
IsNoError _ = Unit {0}

module _ {P : Type 0} (costs : WorkCosts) (tree_of : P → Tree) (text_of : P → Text) (failures_of : P → Failures) where
  -- Successive calls of `next` return these results. The iterator's view is `before` at first and
  -- `behind` at the end.
  abbrev pub NextCallsYieldAtCost : (before : WorkMatchesView P) → List WorkLimitedNextResult
      → (behind : WorkMatchesView P) → Type 0
  NextCallsYieldAtCost before [] behind = behind ≡ before
  NextCallsYieldAtCost before (r ∷ rs) behind =
      (next : WorkMatchesView P) × NextYieldsAtCost costs tree_of text_of failures_of before r next
      × NextCallsYieldAtCost next rs behind

  -- Like `NextCallsYieldAtCost`, where the searches of all calls together cost `cost`.
  abbrev pub NextCallsYieldAtTotalCost : (before : WorkMatchesView P) → List WorkLimitedNextResult → (cost : ℕ)
      → (behind : WorkMatchesView P) → Type 0
  NextCallsYieldAtTotalCost before [] cost behind = (behind ≡ before) × (cost ≡ 0)
  NextCallsYieldAtTotalCost before (r ∷ rs) cost behind =
      (next : WorkMatchesView P) × (first later : ℕ)
      × NextYieldsAtCost costs tree_of text_of failures_of before r next
      × NextCallCosts costs tree_of text_of failures_of before first (Some (failures_of next.producer))
      × NextCallsYieldAtTotalCost next rs later behind × (cost ≡ first + later)

  -- If the budget suffices and no allocation fails, the calls together cost exactly what is taken
  -- from the budget. So with the least sufficient budget, they cost at most that budget.
  abbrev pub CallCostsAreWorkSpent : Type 0
  CallCostsAreWorkSpent = (tree : Tree) (text : Text) (start per_unit work : ℕ) (it behind : WorkMatchesView P)
      (rs : List WorkLimitedNextResult)
      → YieldsMatchesIfWorkSuffices tree text start per_unit work (without_costs it)
      → enough_work_for_text per_unit text ≤ work
      → NextCallsYieldAtCost it rs behind → Each IsNoAllocationFailure rs
      → (cost : ℕ) × NextCallsYieldAtTotalCost it rs cost behind × (work ≡ cost + behind.left)

  -- Any number of calls return the matches of the list in order, until the list ends or an error is
  -- returned, and never increase the work that is left. If none returns an error, they cost exactly
  -- the work that they take.
  abbrev pub CallsWithinWorkReturnMatches : Type 0
  CallsWithinWorkReturnMatches = (it behind : WorkMatchesView P) (rs : List WorkLimitedNextResult)
      → NextCallsYieldAtCost it rs behind
      → ResultsAreMatchesWithinWork (Unit {0}) it.remaining.answers rs
      × (behind.left ≤ it.left)
      × (Each IsNoError rs
      → (cost : ℕ) × NextCallsYieldAtTotalCost it rs cost behind × (it.left ≡ cost + behind.left))
