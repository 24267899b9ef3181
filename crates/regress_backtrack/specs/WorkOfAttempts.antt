-- The cost of an attempt, in units of work.
use Rattle.std.specs.Prelude.{◌≡◌, ◌≤◌, ℕ, ◌+◌, true, false, [], ◌∷◌, List, Option, Some, None, Result, IfOk, OnErr}
use Rattle.regex_meaning.specs.Text.{Text, rightwards}
use Rattle.regex_meaning.specs.CodeUnits.{Encoding, text_units_in_encoding}
use Rattle.regex_meaning.specs.Tree.{Tree}
use Rattle.regress_machine.specs.Machine.{State, Thread, Found, running, search}
use Rattle.regress_machine.specs.SearchFindsFirstOutcomeAtPlace.{state_before_first_insn}
use Rattle.regress_program.specs.CompilationOfTreesAsFunction.{compiled}
use Rattle.regress_program.specs.OptimizedTreeUnlessNoOpt.{planned_tree}
use Rattle.regress_program.specs.TableKeysOfUnits.{is_16_bit_encoding}
use Rattle.regress_search.specs.CostsOfSearches.{Failures, SpendsExactCost, WorkCosts}
use Rattle.regress_backtrack.specs.RepeatableLoopBodies.{HasNoBackreference}
use Rattle.regress_backtrack.specs.BudgetAccounting.{Budget, IsTakenFromBudget}
use Rattle.regress_backtrack.specs.WorkOfSearches.{HasCome, Course, Reaches}

-- The threads with which the attempt at the offset begins.
abbrev pub threads_of_attempt : Tree → (at : ℕ) → List Thread
threads_of_attempt tree at = running (state_before_first_insn (compiled tree) at) ∷ []

module _ (e : Encoding) (tree : Tree) (text : Text) (at cost : ℕ) where
  -- The attempt costs this.
  pub record IsCostOfAttempt : Type 0 where
    pub work : ℕ
    pub last : ℕ
    pub now : List Thread
    pub end : Option State
    pub course : Course (compiled tree) text (text_units_in_encoding e text) rightwards (threads_of_attempt tree at)
        work now
    pub come : HasCome (compiled tree) text (text_units_in_encoding e text) rightwards now last end
    pub is_sum : cost ≡ work + last

  -- The beginning of the attempt, up to one of its events, costs this.
  pub record IsCostOfBeginning : Type 0 where
    pub work : ℕ
    pub next : ℕ
    pub reaches : Reaches (compiled tree) text (text_units_in_encoding e text) rightwards (threads_of_attempt tree at)
        work next
    pub is_sum : cost ≡ work + next

-- Without backreferences, an attempt costs at most as many units as the machine's search takes
-- steps, and it ends as this search does.
abbrev pub AttemptsCostAtMostTheirSteps : Type 0
AttemptsCostAtMostTheirSteps = (e : Encoding) (tree : Tree) (text : Text) (at cost turns : ℕ) (f : Found)
    → HasNoBackreference (compiled tree) → (c : IsCostOfAttempt e tree text at cost)
    → search (compiled tree) text turns rightwards (threads_of_attempt tree at) ≡ Some f
    → (c.end ≡ f.end) × (cost ≤ f.steps)

-- The beginning of the attempt, up to one of its events, was paid, and at most the cost of this
-- event.
pub record BeginningIsPaid (e : Encoding) (tree : Tree) (text : Text) (at : ℕ) (before after : Budget) : Type 0 where
  pub work : ℕ
  pub next : ℕ
  pub part : ℕ
  pub reaches : Reaches (compiled tree) text (text_units_in_encoding e text) rightwards (threads_of_attempt tree at)
      work next
  pub no_more : part ≤ next
  pub paid : IsTakenFromBudget true (work + part) before after

-- The attempt costs this; or its beginning does, if `after` is `None`. No failures are recorded.
abbrev pub AttemptCostsWork : Encoding → Tree → Text → (before : Failures) → (at cost : ℕ)
    → (after : Option Failures) → Type 0
AttemptCostsWork e tree text before at cost (Some after) = IsCostOfAttempt e tree text at cost × (after ≡ before)
AttemptCostsWork e tree text before at cost None = IsCostOfBeginning e tree text at cost

-- The costs of searches by `WorkLimitedExecutor` in this encoding. An attempt costs what it costs
-- with the tree whose code is executed: the tree itself, or the tree to run for 16-bit code units.
abbrev pub work_costs : Encoding → WorkCosts
work_costs e = record {
  of_attempt = λ tree. AttemptCostsWork e (planned_tree (is_16_bit_encoding e) tree);
  may_skip = true;
}

-- No failures are known.
abbrev pub no_failures : Failures
no_failures ip pos code = false

-- The attempt at the offset had this result, and exactly its cost was paid; or its beginning costs
-- more than was left, and no work is left; or an allocation failed, and its beginning was paid.
pub record AttemptIsPaid (e : Encoding) (tree : Tree) (text : Text) (at : ℕ) {X E : Type 0} (before after : Budget)
    (result : Result X E) : Type 0 where
  pub cost : SpendsExactCost (AttemptCostsWork e tree text no_failures at) before.left result after.out after.left
      no_failures
  pub less : after.left ≤ before.left
  pub begun : after.out ≡ false → OnErr result (BeginningIsPaid e tree text at before after)
  pub spent : after.out ≡ true → after.left ≡ 0
  pub within : IfOk result (λ x. after.out ≡ false)
