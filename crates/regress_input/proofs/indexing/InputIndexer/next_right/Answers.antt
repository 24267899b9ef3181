use Rattle.std.proofs.Common.{sym, ◌∙◌, arith}
use Rattle.regress_input.proofs.BoundaryPositions.{boundary_inside, right_ahead, right_boundary, read-last}
use Rattle.regress_input.proofs.indexing.InputIndexer.next_right.Goals as goal

pub returns-then-to_offset-unit_count-clause-read : goal.returns-then-to_offset-unit_count-clause-read
returns-then-to_offset-unit_count-clause-read g c =
    sym (read-last _ (g.met.Self.InputIndexer.is_text c.args.self.now) _ (sym c.to_offset.ensures ∙ c.if-to_offset-unit_count.true ∙ c.unit_count.ensures))

pub read_existing_char_right-c-requires-clause-inside : goal.read_existing_char_right-c-requires-clause-inside
read_existing_char_right-c-requires-clause-inside g c =
    let inside = boundary_inside _ (g.met.Self.InputIndexer.is_text c.args.self.now) _ c.requires in
    omega (arith, inside, c.to_offset.ensures, c.unit_count.ensures, c.if-to_offset-unit_count.false)

pub returns-clause-ahead : goal.returns-clause-ahead
returns-clause-ahead g c = right_ahead _ (g.met.Self.InputIndexer.is_text c.args.self.now) _ _ _ c.read_existing_char_right-c.ensures

pub returns-clause-boundary : goal.returns-clause-boundary
returns-clause-boundary g c = right_boundary _ (g.met.Self.InputIndexer.is_text c.args.self.now) _ _ _ c.read_existing_char_right-c.ensures

pub returns-clause-inside : goal.returns-clause-inside
returns-clause-inside g c =
    boundary_inside _ (g.met.Self.InputIndexer.is_text c.args.self.now) _ (right_boundary _ (g.met.Self.InputIndexer.is_text c.args.self.now) _ _ _ c.read_existing_char_right-c.ensures)
