use Rattle.regex_meaning.specs.CodeUnitOffsets.{IsBoundary}
use Rattle.bench_inputs.proofs.count_left.Given as goal

abbrev pub invariant-loop-c : goal.invariant-loop-c
invariant-loop-c g l = IsBoundary (g.Input.InputIndexer.text l.input) (g.Input.Position.PositionType.offset l.pos)

abbrev pub decreases-loop-c : goal.decreases-loop-c
decreases-loop-c g l = g.Input.Position.PositionType.offset l.pos
