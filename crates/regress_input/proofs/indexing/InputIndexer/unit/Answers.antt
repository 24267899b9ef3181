use Rattle.std.proofs.Common.{arith}
use Rattle.regress_input.proofs.StoredUnitLemmas.{count-is, unit-is}
use Rattle.regress_input.proofs.indexing.InputIndexer.unit.Goals as goal

pub offset_bounds-code_units-to_offset : goal.offset_bounds-code_units-to_offset
offset_bounds-code_units-to_offset g c =
    let count = count-is g.Self.Units.Unit.CodeUnit.number _ _ (g.met.Self.InputIndexer.spelled c.args.self.now) _ c.code_units.ensures.units in
    omega (arith, count, c.requires, c.to_offset.ensures)

pub bounds-code_units-to_offset : goal.bounds-code_units-to_offset
bounds-code_units-to_offset g c =
    let count = count-is g.Self.Units.Unit.CodeUnit.number _ _ (g.met.Self.InputIndexer.spelled c.args.self.now) _ c.code_units.ensures.units in
    omega (arith, count, c.requires, c.to_offset.ensures)

pub returns : goal.returns
returns g c =
    let count = count-is g.Self.Units.Unit.CodeUnit.number _ _ (g.met.Self.InputIndexer.spelled c.args.self.now) _ c.code_units.ensures.units in
    unit-is g.Self.Units.Unit.CodeUnit.number g.Self.Units.CodeUnitEncoding.encoding (g.Self.InputIndexer.text c.args.self.now) _ c.code_units.ensures.units _ _ c.to_offset.ensures (omega (arith, count, c.requires, c.to_offset.ensures))
    _ c.index-code_units-to_offset.is _ c.to_u32.ensures
