-- Step budgets: the number of steps that a search may take, and the matches for which it is
-- sufficient.
use Rattle.std.specs.Prelude.{ℕ, ◌-◌, ◌≤◌, Bool, true, List, [], ◌∷◌, Option, Some, None, if◌then◌else◌, nat_le}
use Rattle.std.specs.Option.{option_map_or}
use Rattle.std.specs.List.{list_all}
use Rattle.regex_meaning.specs.Tree.{Tree}
use Rattle.regex_meaning.specs.Text.{Text}
use Rattle.regex_meaning.specs.CodeUnitOffsets.{place_at}
use Rattle.regex_meaning.specs.OutcomesWithStepTicks.{need, needs}
use Rattle.regex_meaning.specs.MatchGroupsByNumberAndName.{Answer, answers_from}

-- ---- A budget: a number of steps, or no limit

-- Whether the budget suffices for a need.
abbrev pub budget_suffices : (budget : Option ℕ) → (need : ℕ) → Bool
budget_suffices None need = true
budget_suffices (Some steps) need = nat_le need steps

-- What is left of a budget after `spent` steps.
abbrev pub remaining_budget : (budget : Option ℕ) → (spent : ℕ) → Option ℕ
remaining_budget None spent = None
remaining_budget (Some steps) spent = Some (steps - spent)

-- The budget `now` is at most `before`. Either both have a limit, or neither has one.
abbrev pub IsBudgetAtMost : (now before : Option ℕ) → Type 0
IsBudgetAtMost None None = Unit {0}
IsBudgetAtMost (Some n) (Some m) = n ≤ m
IsBudgetAtMost _ _ = ⊥

-- ---- A list and its needs

-- The items before the first one whose need is greater than `steps`.
abbrev pub items_within_steps : {X : Type 0} → (steps : ℕ) → (needs : List ℕ) → List X → List X
items_within_steps steps (n ∷ needs) (x ∷ xs) = if nat_le n steps then x ∷ items_within_steps steps needs xs else []
items_within_steps steps _ _ = []

module _ (tree : Tree) (text : Text) where
  -- The need of the first match from an offset on, or of finding that there is none. 0 if the
  -- offset is not a boundary.
  abbrev pub need_from : (start : ℕ) → ℕ
  need_from start = option_map_or (need tree text) (place_at text start) 0

  -- The needs of the answers from an offset on and of the end of the list. Each includes the needs
  -- before it.
  abbrev pub needs_of_answers : (start : ℕ) → List ℕ
  needs_of_answers start = option_map_or (needs tree text) (place_at text start) []

  -- The answers from an offset on for which the budget suffices.
  abbrev pub answers_within : (budget : Option ℕ) → (start : ℕ) → List Answer
  answers_within None start = answers_from tree.root text start
  answers_within (Some steps) start =
      items_within_steps steps (needs_of_answers start) (answers_from tree.root text start)

  -- Whether the budget suffices for all answers and for the end of the list.
  abbrev pub finishes_within : (budget : Option ℕ) → (start : ℕ) → Bool
  finishes_within None start = true
  finishes_within (Some steps) start = list_all (λ n. nat_le n steps) (needs_of_answers start)

  -- The answers within the budget from the offset where the list continues. Empty if it does not
  -- continue.
  abbrev pub answers_within_from_next : (budget next : Option ℕ) → List Answer
  answers_within_from_next budget None = []
  answers_within_from_next budget (Some start) = answers_within budget start

  -- Whether the budget suffices for all answers from the offset where the list continues, and for
  -- the end of the list. True if the list does not continue.
  abbrev pub finishes_from_next : (budget next : Option ℕ) → Bool
  finishes_from_next budget None = true
  finishes_from_next budget (Some start) = finishes_within budget start
