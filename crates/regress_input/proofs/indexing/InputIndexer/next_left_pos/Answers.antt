use Rattle.regress_input.proofs.BoundaryPositions.{boundary_inside, before_ahead, before_boundary}
use Rattle.regress_input.proofs.indexing.InputIndexer.next_left_pos.Goals as goal

pub returns-clause-ahead : goal.returns-clause-ahead
returns-clause-ahead g c = before_ahead _ (g.met.Self.InputIndexer.is_text c.args.self.now) _ _ c.before-2.ensures

pub returns-clause-boundary : goal.returns-clause-boundary
returns-clause-boundary g c = before_boundary _ (g.met.Self.InputIndexer.is_text c.args.self.now) _ _ c.before-2.ensures

pub returns-clause-inside : goal.returns-clause-inside
returns-clause-inside g c =
    boundary_inside _ (g.met.Self.InputIndexer.is_text c.args.self.now) _ (before_boundary _ (g.met.Self.InputIndexer.is_text c.args.self.now) _ _ c.before-2.ensures)
