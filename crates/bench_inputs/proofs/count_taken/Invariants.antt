use Rattle.std.proofs.Common.{◌-◌}
use Rattle.regex_meaning.specs.CodeUnitOffsets.{units, IsBoundary}
use Rattle.bench_inputs.proofs.count_taken.Given as goal

abbrev pub invariant-loop-pos : goal.invariant-loop-pos
invariant-loop-pos g l = IsBoundary (g.Input.InputIndexer.text l.input) (g.Input.Position.PositionType.offset l.pos)

abbrev pub decreases-loop-pos : goal.decreases-loop-pos
decreases-loop-pos g l = units (g.Input.InputIndexer.text l.input) - g.Input.Position.PositionType.offset l.pos
