use Rattle.std.proofs.Common.{◌∙◌, ap, arith}
use Rattle.regress_input.specs.CharAndByteReadsFromOffset.{direction_of_forward_flag}
use Rattle.regress_input.proofs.BoundaryPositions.{boundary_inside}
use Rattle.regress_input.proofs.StoredUnitLemmas.{count-is, again-is}
use Rattle.regress_input.proofs.indexing.InputIndexer.past_again.Goals as goal

pub past_repeated_range_if_next-to-requires-clause-at : goal.past_repeated_range_if_next-to-requires-clause-at
past_repeated_range_if_next-to-requires-clause-at g c =
    let count = count-is g.Self.Units.Unit.CodeUnit.number _ _ (g.met.Self.InputIndexer.spelled c.args.self.now) _ c.code_units-all.ensures.units in
    omega (arith, count, boundary_inside _ (g.met.Self.InputIndexer.is_text c.args.self.now) _ c.requires.at, c.to_offset-at.ensures)

pub past_repeated_range_if_next-to-requires-clause-to : goal.past_repeated_range_if_next-to-requires-clause-to
past_repeated_range_if_next-to-requires-clause-to g c =
    let count = count-is g.Self.Units.Unit.CodeUnit.number _ _ (g.met.Self.InputIndexer.spelled c.args.self.now) _ c.code_units-all.ensures.units in
    omega (arith, count, boundary_inside _ (g.met.Self.InputIndexer.is_text c.args.self.now) _ c.requires.to, c.to_offset-2.ensures)

pub returns : goal.returns
returns g c =
    c.position_at.ensures ∙ c.unless_splitting_pair.ensures
    ∙ again-is g.Self.Units.Unit.CodeUnit.number g.Self.Units.CodeUnitEncoding.encoding (g.Self.InputIndexer.text c.args.self.now) c.code_units-all.result.now c.code_units-all.ensures.again
    g.Self.Units.Unit.PartialEq.eq g.met.Self.Units.Unit.CodeUnit.equal _ _ (ap direction_of_forward_flag c.FORWARD.ensures) _ _ _ _ _ _ c.to_offset-at.ensures c.to_offset.ensures c.to_offset-2.ensures
    c.requires.at c.requires.from c.requires.to c.requires.in_order _ c.past_repeated_range_if_next-to.ensures
