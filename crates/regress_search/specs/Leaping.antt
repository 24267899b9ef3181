-- Where a leap leads: how far a search may advance because each match has to reach a goal.
use Rattle.std.specs.Prelude.{◌≡◌, ◌⊎◌, ◌≤◌, ◌<◌, ℕ, ◌-◌, Bool, true, false, Option, Some, None}
use Rattle.regex_meaning.specs.CodeUnitOffsets.{IsBoundary}
use Rattle.regress_program.specs.declared.leap.Leap.{Leap}
use Rattle.regress_program.specs.Leaps.{leap_to_goal, may_read_before_goal, goal_occurs_at, GoalIsAbsentBetween, GoalIsAbsentFrom, HasBarrierBetween}
use Rattle.regress_search.specs.TreePlanAndText.{SearchInput}
use Rattle.regress_search.specs.declared.leaping.LeapTarget.{LeapTarget}

module _ (w : SearchInput) (leap : Leap) where
  -- Whether a match may read the unit at an offset before it reaches the goal.
  abbrev pub may_read_unit_before_goal : (at : ℕ) → Bool
  may_read_unit_before_goal at = may_read_before_goal (leap_to_goal leap) w.encoding w.text at

module _ (w : SearchInput) (leap : Leap) (from goal : ℕ) where
  -- `at` is the first offset at `from` or later such that a match may read all units between `at`
  -- and the goal.
  pub record IsFirstOffsetReadableUpToGoal (at : ℕ) : Type 0 where
    pub ahead : from ≤ at
    pub before : at ≤ goal
    pub passed : at < goal → may_read_unit_before_goal w leap at ≡ true
    pub barred : from < at → may_read_unit_before_goal w leap (at - 1) ≡ false

  -- Between each offset from `from` up to `to` and the goal, there is a barrier: a unit that a
  -- match may not read before the goal.
  pub record IsPastBarriersBeforeGoal (to : ℕ) : Type 0 where
    pub boundary : IsBoundary w.text to
    pub ahead : from ≤ to
    pub barred : (at : ℕ) → from ≤ at → at < to → HasBarrierBetween (leap_to_goal leap) w.encoding w.text at goal

module _ (w : SearchInput) (leap : Leap) (from : ℕ) where
  -- The target has the next goal at `from` or later, and an offset past the last barrier before it.
  pub record LeadsTo (target : LeapTarget) : Type 0 where
    pub occurs : goal_occurs_at (leap_to_goal leap) w.encoding w.text target.goal ≡ true
    pub absent : GoalIsAbsentBetween (leap_to_goal leap) w.encoding w.text from target.goal
    pub behind : IsPastBarriersBeforeGoal w leap from target.goal target.to

  -- The target of a leap. `None` if there is no goal at `from` or later.
  abbrev pub IsTargetOfLeap : Option LeapTarget → Type 0
  IsTargetOfLeap None = GoalIsAbsentFrom (leap_to_goal leap) w.encoding w.text from
  IsTargetOfLeap (Some target) = LeadsTo target

module _ (w : SearchInput) (leap : Leap) (from limit : ℕ) where
  -- The offset is that of the first goal at `from` or later, or is the limit, and no goal is before.
  -- It is at most the limit.
  pub record IsFirstGoalOrLimit (goal : ℕ) : Type 0 where
    pub is_one : (goal_occurs_at (leap_to_goal leap) w.encoding w.text goal ≡ true) ⊎ (goal ≡ limit)
    pub absent : GoalIsAbsentBetween (leap_to_goal leap) w.encoding w.text from goal
    pub within : goal ≤ limit

  -- The target of a leap that searches for a goal only before the limit. If there is none, the limit
  -- stands for it. `None` if there is no goal at `from` or later.
  abbrev pub IsTargetOfLeapWithin : Option LeapTarget → Type 0
  IsTargetOfLeapWithin None = GoalIsAbsentFrom (leap_to_goal leap) w.encoding w.text from
  IsTargetOfLeapWithin (Some target) = IsFirstGoalOrLimit target.goal
      × IsPastBarriersBeforeGoal w leap from target.goal target.to
