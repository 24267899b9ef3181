-- What an attempt at an offset returns, and how many steps it takes.
use Rattle.std.specs.Prelude.{◌≡◌, ℕ, ◌+◌, length, Bool, Option, Result}
use Rattle.regex_meaning.specs.Tree.{Tree}
use Rattle.regress_program.specs.CompilationOfTreesAsFunction.{compiled}
use Rattle.regress_search.specs.AttemptsAndStarts.{match_end_and_groups_at, end_with_groups, ticks_of_attempt_at}
use Rattle.regress_search.specs.SearchEffects.{SpendsNeedOrReachesLimit, AllocFailureCostsAStep}
use Rattle.regress_search.specs.declared.exec.SearchError.{SearchError}
use Rattle.regress_backtrack.specs.State.{StateModel, current_thread_state_of}
use Rattle.regress_search.specs.TreePlanAndText.{SearchInput}
use Rattle.regress_backtrack.specs.BudgetAccounting.{Budget, step_limit}

-- The end is that of the first outcome at the offset, and the state holds the groups of this
-- outcome. `None` if there is no outcome.
abbrev pub HasFirstOutcomeEndAndGroups : {P : Type 0} → (offset : P → ℕ) → SearchInput → (at : ℕ) → (after : StateModel)
    → Option P → Type 0
HasFirstOutcomeEndAndGroups offset w at after end =
    end_with_groups offset end (current_thread_state_of after 0 0).groups ≡ match_end_and_groups_at w.tree w.text at

-- The steps left are reduced by the steps up to the first outcome at the offset, or there are too
-- few of them.
abbrev pub CostsStepsAt : {X : Type 0} → SearchInput → (at : ℕ) → (counts : Bool) → (before : Budget)
    → Result X SearchError → (after : Budget) → Type 0
CostsStepsAt w at counts before answer after = SpendsNeedOrReachesLimit (ticks_of_attempt_at w.tree w.text at)
    (step_limit counts before) answer (step_limit counts after)

-- The state has a slot for each group and each loop of the tree.
abbrev pub HasSlotPerGroupAndLoop : Tree → StateModel → Type 0
HasSlotPerGroupAndLoop tree h = length h.slots ≡ (compiled tree).groups + (compiled tree).loops

-- If the state has all of its slots, an allocation failure has spent at least one step.
abbrev pub AllocFailureCostsStepIfSlots : {X : Type 0} → SearchInput → (left : StateModel) → (counts : Bool)
    → (before : Budget) → Result X SearchError → (after : Budget) → Type 0
AllocFailureCostsStepIfSlots w left counts before answer after =
    AllocFailureCostsAStep (HasSlotPerGroupAndLoop w.tree left) (step_limit counts before) answer
    (step_limit counts after)
