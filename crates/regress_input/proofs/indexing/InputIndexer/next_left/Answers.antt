use Rattle.regress_input.proofs.BoundaryPositions.{boundary_inside, left_ahead, left_boundary}
use Rattle.regress_input.proofs.indexing.InputIndexer.next_left.Goals as goal

pub returns-clause-ahead : goal.returns-clause-ahead
returns-clause-ahead g c = left_ahead _ (g.met.Self.InputIndexer.is_text c.args.self.now) _ _ _ c.read_existing_char_left-c.ensures

pub returns-clause-boundary : goal.returns-clause-boundary
returns-clause-boundary g c = left_boundary _ (g.met.Self.InputIndexer.is_text c.args.self.now) _ _ _ c.read_existing_char_left-c.ensures

pub returns-clause-inside : goal.returns-clause-inside
returns-clause-inside g c =
    boundary_inside _ (g.met.Self.InputIndexer.is_text c.args.self.now) _ (left_boundary _ (g.met.Self.InputIndexer.is_text c.args.self.now) _ _ _ c.read_existing_char_left-c.ensures)
