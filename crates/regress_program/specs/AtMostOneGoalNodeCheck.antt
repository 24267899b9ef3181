-- The `Goal` nodes of a tree.
use Rattle.std.specs.Prelude.{true, Option, Some, None, if◌then◌else◌}
use Rattle.regex_meaning.specs.Tree.{Node, goal}
use Rattle.regress_program.specs.declared.emit.well_formedness_check.SecondGoalNodeDetector.{SecondGoalNodeDetector}

-- One step of the check that there is at most one `Goal`. `None` at a second one.
abbrev pub visit_goal : Node → SecondGoalNodeDetector → Option SecondGoalNodeDetector
visit_goal goal it = if it.found then None else Some (record { found = true })
visit_goal _ it = Some it
