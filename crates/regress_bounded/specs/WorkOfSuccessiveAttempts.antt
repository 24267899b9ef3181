-- The attempts for successive matches: the work that they did, and that the work left suffices for
-- the others.
use Rattle.std.specs.Prelude.{◌≤◌, ℕ, ◌+◌, ◌*◌}
use Rattle.regex_meaning.specs.Text.{Text}
use Rattle.regex_meaning.specs.CodeUnitOffsets.{units}
use Rattle.regex_meaning.specs.CompilationRelation.{Program}
use Rattle.regress_memo.specs.MemoContents.{has_failure}
use Rattle.regress_bounded.specs.declared.memo_and_work_budget.MemoAndWorkBudget.{MemoAndWorkBudget}
use Rattle.regress_bounded.specs.WorkBoundForAllMatches.{second_stage_work_per_position}
use Rattle.regress_bounded.specs.WorkOfCharLoopsAndAttempts.{AttemptsHaveKnownKeys}

module _ (program : Program) (text : Text) (c : MemoAndWorkBudget) (ahead : ℕ) where
  -- No attempt was made at `ahead` or later. The work done and the work left together suffice for
  -- all attempts.
  pub record Walked : Type 0 where
    pub done : ℕ
    pub walked : AttemptsHaveKnownKeys program text c.memo.memo_analysis (has_failure c.memo) ahead done
    pub enough : second_stage_work_per_position c.memo.memo_analysis * (units text + 1) ≤ done + c.left

  -- `Walked` as a proposition.
  abbrev pub AttemptsLeaveEnoughWork : Type 0
  AttemptsLeaveEnoughWork = ∥ Walked ∥₁
