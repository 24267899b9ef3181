-- Searches that resume at an offset.
use Rattle.regex_meaning.specs.CodeUnitOffsets.{IsBoundaryOrPastEnd}
use Rattle.std.specs.Prelude.{◌≡◌, ◌-◌, ◌^◌, ℕ, unwrap_or, true, false, List, [], ◌∷◌, length, Option, Some, None, Result, Ok, Err}
use Rattle.regex_meaning.specs.MatchGroupsByNumberAndName.{Answer}
use Rattle.regex_meaning.specs.SearchAnswers.{next_start}
use Rattle.regex_meaning.specs.Tree.{Tree, group_ids}
use Rattle.regex_meaning.specs.Text.{Text}
use Rattle.regex_meaning.specs.StepBudget.{IsBudgetAtMost, answers_within, finishes_within, need_from, remaining_budget}
use Rattle.regress_search.specs.MatchesAsSpecAnswers.{answer_of}
use Rattle.regress_search.specs.declared.exec.SearchError.{SearchError}
use Rattle.regress_search.specs.declared.exec.SearchError.TheVariants.{Memory, StepLimit}
use Rattle.regress_match.specs.declared.api.searches_resumed_at_offsets.MatchAndNext.{MatchAndNext}

module _ (tree : Tree) (text : Text) where
  -- The offset at which the list of matches continues after the first match from `start` on. If the
  -- list ends, it is the greatest `usize`, which is past the end of every text.
  abbrev pub offset_after_first_match : (start : ℕ) → ℕ
  offset_after_first_match start = unwrap_or (next_start tree.root text start) (2 ^ 64 - 1)

  -- The steps that are left when the first match from an offset on is found, or is known not to
  -- exist. The search takes exactly the steps that this needs. Past the end of the text it takes
  -- none.
  abbrev pub step_budget_after_first_match : (budget : Option ℕ) → (start : ℕ) → Option ℕ
  step_budget_after_first_match budget start = remaining_budget budget (need_from tree text start)

  -- No match remains from an offset on, and the budget suffices to find that out.
  abbrev pub IsExhaustedFrom : (budget : Option ℕ) → (start : ℕ) → Type 0
  IsExhaustedFrom budget start = (answers_within tree text budget start ≡ [])
      × (finishes_within tree text budget start ≡ true)

  -- A match remains. The matches after it are those from `next` on within the budget that is left.
  -- The match has an entry for each group.
  pub record FindsNext (budget : Option ℕ) (start : ℕ) (found : Answer) (next : ℕ) (left : Option ℕ) : Type 0 where
    pub answers : answers_within tree text budget start ≡ found ∷ answers_within tree text left next
    pub limit : finishes_within tree text budget start ≡ finishes_within tree text left next
    pub starts : IsBoundaryOrPastEnd text next
    pub steps : left ≡ step_budget_after_first_match budget start
    pub groups : length found.captures ≡ length (group_ids tree.root)

  -- These matches are found one after another from an offset on. Then the budget is `left`, and the
  -- search is at the offset `next`.
  abbrev pub AreFoundInOrder : (budget : Option ℕ) → (start : ℕ) → List Answer → (left : Option ℕ) → (next : ℕ) → Type 0
  AreFoundInOrder budget start [] left next = (left ≡ budget) × (next ≡ start)
  AreFoundInOrder budget start (m ∷ ms) left next =
      (to : ℕ) × FindsNext budget start m to (step_budget_after_first_match budget start)
      × AreFoundInOrder (step_budget_after_first_match budget start) to ms left next

  -- The result of a call at an offset, and the budget after it. An allocation may fail at any step.
  -- Then at most the budget before the call is left, and at least what a result would leave.
  abbrev pub IsResultOfNextFrom : (budget : Option ℕ) → (start : ℕ) → Result (Option MatchAndNext) SearchError
      → (left : Option ℕ)
      → Type 0
  IsResultOfNextFrom budget start (Ok (Some step)) left = FindsNext budget start (answer_of step.found) step.next left
  IsResultOfNextFrom budget start (Ok None) left = IsExhaustedFrom budget start
      × (left ≡ step_budget_after_first_match budget start)
  IsResultOfNextFrom budget start (Err Memory) left = IsBudgetAtMost left budget
      × IsBudgetAtMost (step_budget_after_first_match budget start) left
  IsResultOfNextFrom budget start (Err StepLimit) left =
      (answers_within tree text budget start ≡ []) × (finishes_within tree text budget start ≡ false) × (left ≡ Some 0)
