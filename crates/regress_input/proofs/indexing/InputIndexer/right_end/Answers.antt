use Rattle.std.proofs.Common.{◌∙◌}
use Rattle.regress_input.proofs.BoundaryPositions.{end_boundary}
use Rattle.regress_input.proofs.indexing.InputIndexer.right_end.Goals as goal

pub returns-clause-boundary : goal.returns-clause-boundary
returns-clause-boundary g c = end_boundary _ (g.met.Self.InputIndexer.is_text c.args.self.now) _ (c.from_offset.ensures ∙ c.unit_count.ensures)
