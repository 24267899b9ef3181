use Rattle.std.proofs.Common.{◌-◌}
use Rattle.regex_meaning.specs.CodeUnitOffsets.{units, IsBoundary}
use Rattle.bench_inputs.proofs.count_right.Given as goal

abbrev pub invariant-loop-c : goal.invariant-loop-c
invariant-loop-c g l = IsBoundary (g.Input.InputIndexer.text l.input) (g.Input.Position.PositionType.offset l.pos)

abbrev pub decreases-loop-c : goal.decreases-loop-c
decreases-loop-c g l = units (g.Input.InputIndexer.text l.input) - g.Input.Position.PositionType.offset l.pos
