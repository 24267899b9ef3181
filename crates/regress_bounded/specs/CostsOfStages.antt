-- The cost of attempts in two stages. The first stage executes attempts as `WorkLimitedExecutor` does,
-- with a part of the work. The attempt for which that part does not suffice is repeated by the second
-- stage, which remembers failures and makes all further attempts.
use Rattle.std.specs.Prelude.{ℕ, ◌+◌, true, Option}
use Rattle.regex_meaning.specs.CodeUnits.{Encoding}
use Rattle.regex_meaning.specs.Text.{Text}
use Rattle.regex_meaning.specs.Tree.{Tree}
use Rattle.regress_search.specs.CostsOfSearches.{CostsMoreThanLeft, Failures, WorkCosts}
use Rattle.regress_backtrack.specs.WorkOfAttempts.{work_costs}
use Rattle.regress_bounded.specs.CostsOfAttempts.{AttemptCosts}

module _ (e : Encoding) (tree : Tree) (text : Text) (before : Failures) (at : ℕ) where
  -- What an attempt costs in the first stage.
  abbrev pub FirstStageCosts : (cost : ℕ) → (after : Option Failures) → Type 0
  FirstStageCosts = (work_costs e).of_attempt tree text before at

  -- The attempt costs this; or, if `after` is `None`, a first part of it does. If the first stage cannot
  -- complete it, the attempt costs some number that a first part of it exceeds there, and what it costs in
  -- the second stage.
  pub data StagesCost : (cost : ℕ) → (after : Option Failures) → Type 0 where
    in_first : (cost : ℕ) (after : Option Failures) → FirstStageCosts cost after → StagesCost cost after
    in_second : (cost : ℕ) (after : Option Failures) → AttemptCosts tree text before at cost after
        → StagesCost cost after
    in_both : (left cost : ℕ) (after : Option Failures) → CostsMoreThanLeft FirstStageCosts left
        → AttemptCosts tree text before at cost after → StagesCost (left + cost) after

-- The costs of searches in two stages. Only the first stage skips starts.
abbrev pub costs_of_stages : Encoding → WorkCosts
costs_of_stages e = record { of_attempt = StagesCost e; may_skip = true }
