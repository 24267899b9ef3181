use Rattle.std.proofs.Common.{sym, ◌∙◌, ap, option_map, arith}
use Rattle.regress_input.proofs.BoundaryPositions.{boundary_inside, past_ahead, past_boundary, read-last}
use Rattle.regress_input.proofs.indexing.InputIndexer.next_right_pos.Goals as goal

pub returns-then-to_offset-unit_count-clause-read : goal.returns-then-to_offset-unit_count-clause-read
returns-then-to_offset-unit_count-clause-read g c =
    sym (ap (option_map (λ r. r.1)) (read-last _ (g.met.Self.InputIndexer.is_text c.args.self.now) _ (sym c.to_offset.ensures ∙ c.if-to_offset-unit_count.true ∙ c.unit_count.ensures)))

pub past-requires-clause-inside : goal.past-requires-clause-inside
past-requires-clause-inside g c =
    let inside = boundary_inside _ (g.met.Self.InputIndexer.is_text c.args.self.now) _ c.requires in
    omega (arith, inside, c.to_offset.ensures, c.unit_count.ensures, c.if-to_offset-unit_count.false)

pub returns-clause-ahead : goal.returns-clause-ahead
returns-clause-ahead g c = past_ahead _ (g.met.Self.InputIndexer.is_text c.args.self.now) _ _ c.past.ensures

pub returns-clause-boundary : goal.returns-clause-boundary
returns-clause-boundary g c = past_boundary _ (g.met.Self.InputIndexer.is_text c.args.self.now) _ _ c.past.ensures

pub returns-clause-inside : goal.returns-clause-inside
returns-clause-inside g c =
    boundary_inside _ (g.met.Self.InputIndexer.is_text c.args.self.now) _ (past_boundary _ (g.met.Self.InputIndexer.is_text c.args.self.now) _ _ c.past.ensures)
