use Rattle.regress_input.proofs.BoundaryPositions.{right_then_left, left_then_right}
use Rattle.regress_input.proofs.indexing.law_reads_are_inverse.Goals as goal

pub returns-clause-right_then_left : goal.returns-clause-right_then_left
returns-clause-right_then_left g c = let input = c.args._input.now in right_then_left (g.Input.InputIndexer.text input) (g.met.Input.InputIndexer.is_text input)

pub returns-clause-left_then_right : goal.returns-clause-left_then_right
returns-clause-left_then_right g c = let input = c.args._input.now in left_then_right (g.Input.InputIndexer.text input) (g.met.Input.InputIndexer.is_text input)
