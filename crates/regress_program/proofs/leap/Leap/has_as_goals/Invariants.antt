use Rattle.std.proofs.Common.{◌≡◌, ◌<◌, ℕ, true}
use Rattle.regress_program.specs.Leaps.{is_goal_key}
use Rattle.regress_program.specs.TableKeysOfUnits.{unit_table_of_set}
use Rattle.regress_program.proofs.leap.Leap.has_as_goals.Given as goal

abbrev pub invariant-loop-key : goal.invariant-loop-key
invariant-loop-key l = (k : ℕ) → k < l.key → (unit_table_of_set l.set).keys k ≡ true → is_goal_key l.self k ≡ true
