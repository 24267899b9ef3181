-- The effects of a search: where the list of matches continues, and how many steps are left.
use Rattle.std.specs.Prelude.{◌≡◌, ℕ, ◌+◌, Bool, true, false, IsTrue, Option, Some, Result, Ok, Err, option_map}
use Rattle.regex_meaning.specs.Tree.{Tree}
use Rattle.regex_meaning.specs.Text.{Text}
use Rattle.regex_meaning.specs.SearchAnswers.{next_start}
use Rattle.regex_meaning.specs.StepBudget.{IsBudgetAtMost, budget_suffices, remaining_budget}
use Rattle.regress_search.specs.declared.exec.SearchError.{SearchError}
use Rattle.regress_search.specs.declared.exec.SearchError.TheVariants.{Memory, StepLimit}

-- A result is returned only if the steps that it needs are within the budget, and the budget is
-- lowered by that number. `StepLimit` is returned only if they are not within the budget, and no
-- steps are left. An allocation may fail at any step. Then the budget has not increased, and at
-- least as much is left as after a result.
abbrev pub SpendsNeedOrReachesLimit : {X : Type 0} → (need : ℕ) → (before : Option ℕ) → Result X SearchError
    → (after : Option ℕ) → Type 0
SpendsNeedOrReachesLimit need before (Ok x) after = IsTrue (budget_suffices before need)
    × (after ≡ remaining_budget before need)
SpendsNeedOrReachesLimit need before (Err Memory) after = IsBudgetAtMost after before
    × IsBudgetAtMost (remaining_budget before need) after
SpendsNeedOrReachesLimit need before (Err StepLimit) after = (budget_suffices before need ≡ false) × (after ≡ Some 0)

-- The cause of an error: the step limit was reached, or otherwise an allocation failed.
abbrev pub cause_of_error : (out_of_steps : Bool) → SearchError
cause_of_error true = StepLimit
cause_of_error false = Memory

-- An error has the stated cause, and a result is returned only if the step limit was not reached.
abbrev pub TellsIfStepLimitReached : {X : Type 0} → Result X SearchError → (out_of_steps : Bool) → Type 0
TellsIfStepLimitReached (Ok x) out_of_steps = out_of_steps ≡ false
TellsIfStepLimitReached (Err e) out_of_steps = e ≡ cause_of_error out_of_steps

-- A skip of candidate starts is refused only if it needs more work than is left. The error is
-- `Memory`, as for an attempt that needs more.
abbrev pub IsRefusedByWorkLimit : SearchError → (out_of_steps out_of_work enough : Bool) → Type 0
IsRefusedByWorkLimit e out_of_steps out_of_work enough =
    (e ≡ Memory) × (out_of_steps ≡ false) × (out_of_work ≡ true) × (enough ≡ false)

-- If steps are counted and an attempt has begun, an allocation failure has spent at least one step.
abbrev pub AllocFailureCostsAStep : {X : Type 0} → (Begun : Type 0) → (before : Option ℕ) → Result X SearchError
    → (after : Option ℕ) → Type 0
AllocFailureCostsAStep Begun (Some before) (Err Memory) after = Begun
    → IsBudgetAtMost (option_map (λ n. n + 1) after) (Some before)
AllocFailureCostsAStep Begun _ _ _ = Unit {0}

-- `next` is where the list of matches continues after the first match at `at` or later.
abbrev pub IsNextStartAfterFirstMatch : Tree → Text → (at : ℕ) → (next : Option ℕ) → Type 0
IsNextStartAfterFirstMatch tree text at next = next ≡ next_start tree.root text at
