use Rattle.std.specs.Prelude.{◌≤◌}
use Rattle.regex_meaning.specs.CodeUnitOffsets.{IsBoundary}
use Rattle.test_inputs.proofs.answers.position_moved_right.Given as goal

abbrev pub invariant-loop : goal.invariant-loop
invariant-loop g l =
    IsBoundary (g.Input.InputIndexer.text l.input) (g.Input.Position.PositionType.offset l.at)
    × (g.Input.Position.PositionType.offset l.fn.pos ≤ g.Input.Position.PositionType.offset l.at)
