-- Leaps: the goal that each match reaches, and the units that it may read before the goal.
use Rattle.std.specs.Prelude.{◌≡◌, ◌≤◌, ◌<◌, ℕ, Bool, true, false, ◌||◌, nat_le, slice_index_or}
use Rattle.regex_meaning.specs.Text.{Text, rightwards}
use Rattle.regex_meaning.specs.Outcomes.{is_some_and}
use Rattle.regex_meaning.specs.CodeUnits.{Encoding}
use Rattle.regex_meaning.specs.CompilationRelation.{Program}
use Rattle.regress_machine.specs.Machine.{State, running}
use Rattle.regress_machine.specs.ThreadSimulation.{FindsNothing}
use Rattle.regress_machine.specs.FirstSetTables.{HasUnitsForTables, unit_key_at}
use Rattle.regress_program.specs.TableKeysOfUnits.{key, is_16_bit_encoding}
use Rattle.regress_program.specs.ListedUnits.{is_listed}
use Rattle.regress_program.specs.declared.leap.Leap.{Leap}

-- A leap: each match reaches the goal, a unit with a key in `goal`, and reads only units with keys
-- in `over` before it.
pub record LeapToGoal : Type 0 where
  pub over : ℕ → Bool
  pub goal : ℕ → Bool

module _ (leap : LeapToGoal) (e : Encoding) (text : Text) where
  -- Whether a match may read the unit at an offset before the goal.
  abbrev pub may_read_before_goal : (at : ℕ) → Bool
  may_read_before_goal at = is_some_and (unit_key_at e (key (is_16_bit_encoding e)) text at) leap.over

  -- Whether the goal occurs at an offset.
  abbrev pub goal_occurs_at : (at : ℕ) → Bool
  goal_occurs_at at = is_some_and (unit_key_at e (key (is_16_bit_encoding e)) text at) leap.goal

  -- A match that continues at the offset `from` may reach a goal at the offset `goal`.
  pub record ReachesGoalAt (from goal : ℕ) : Type 0 where
    pub ahead : from ≤ goal
    pub over : (at : ℕ) → from ≤ at → at < goal → may_read_before_goal at ≡ true
    pub occurs : goal_occurs_at goal ≡ true

  -- No goal can be reached from this offset.
  abbrev pub ReachesNoGoal : (from : ℕ) → Type 0
  ReachesNoGoal from = (goal : ℕ) → ReachesGoalAt from goal → ⊥

  -- The goal does not occur at an offset that is `from` or more and less than `to`.
  abbrev pub GoalIsAbsentBetween : (from to : ℕ) → Type 0
  GoalIsAbsentBetween from to = (at : ℕ) → from ≤ at → at < to → goal_occurs_at at ≡ false

  -- The goal does not occur at this offset or later.
  abbrev pub GoalIsAbsentFrom : (from : ℕ) → Type 0
  GoalIsAbsentFrom from = (at : ℕ) → from ≤ at → goal_occurs_at at ≡ false

  -- Between two offsets there is a unit that a match does not read before the goal.
  pub record HasBarrierBetween (from to : ℕ) : Type 0 where
    pub at : ℕ
    pub after : from ≤ at
    pub before : at < to
    pub barred : may_read_before_goal at ≡ false

-- The leap is sound: no match begins at an offset from which no goal can be reached.
pub record IsSoundLeap (wide : Bool) (program : Program) (leap : LeapToGoal) : Type 0 where
  pub excludes : (e : Encoding) → is_16_bit_encoding e ≡ wide → (text : Text) → HasUnitsForTables e text → (s : State)
      → s.ip ≡ 0
      → ReachesNoGoal leap e text s.pos → FindsNothing program text rightwards (running s)

-- ---- Leaps of plans

-- Whether a unit with this key is the goal.
abbrev pub is_goal_key : Leap → (k : ℕ) → Bool
is_goal_key leap k = is_listed leap.goal k

-- Whether a match may read a unit with this key before its goal.
abbrev pub is_passed_key : Leap → (k : ℕ) → Bool
is_passed_key leap k = slice_index_or leap.over k false

-- The leap of a plan, with the goal as a test of keys. No unit has a key of 256 or more.
abbrev pub leap_to_goal : Leap → LeapToGoal
leap_to_goal leap = record { over = is_passed_key leap; goal = λ k. is_goal_key leap k || nat_le 256 k }

-- The keys from 128 on are all in `over`, or all not.
abbrev pub AreHighKeysAlike : Leap → Type 0
AreHighKeysAlike leap = (k : ℕ) → 128 ≤ k → k < 256 → is_passed_key leap k ≡ is_passed_key leap 128

-- The goal is at most 3 units, all below 128.
pub record AreGoalsFewAscii (leap : Leap) : Type 0 where
  pub few : leap.goal.len ≤ 3
  pub low : (k : ℕ) → k < leap.goal.len → slice_index_or leap.goal.units k 0 < 128

-- The leap of a plan is sound for the program, and has the form that searches rely on.
pub record IsLeapRightForProgram (wide : Bool) (program : Program) (leap : Leap) : Type 0 where
  pub alike : AreHighKeysAlike leap
  pub ascii : AreGoalsFewAscii leap
  pub sound : IsSoundLeap wide program (leap_to_goal leap)
