use Rattle.std.proofs.Common.{◌+◌, ◌*◌}
use Rattle.use_validator.proofs.walk.Walk.+walk.Given as goal

-- Each call goes one line down, and the last one to the first at a smaller depth.
abbrev pub decreases-step : goal.decreases-step
decreases-step l = 4 * l.depth + 3

abbrev pub decreases-check_test : goal.decreases-check_test
decreases-check_test l = 4 * l.depth + 2

abbrev pub decreases-count_holding : goal.decreases-count_holding
decreases-count_holding l = 4 * l.depth + 1

abbrev pub decreases-check_names : goal.decreases-check_names
decreases-check_names l = 4 * l.depth + 1

abbrev pub decreases-outcome : goal.decreases-outcome
decreases-outcome l = 4 * l.depth
