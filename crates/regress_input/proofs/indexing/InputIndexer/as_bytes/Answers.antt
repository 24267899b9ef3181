use Rattle.std.proofs.Common.{◌∙◌}
use Rattle.regress_input.proofs.StoredUnitLemmas.{bytes-are}
use Rattle.regress_input.proofs.indexing.InputIndexer.as_bytes.Goals as goal

pub returns : goal.returns
returns g c =
    c.as_bytes.ensures ∙ bytes-are g.Self.Units.Unit.CodeUnit.number g.Self.Units.CodeUnitEncoding.encoding _ _ g.met.Self.Units.CodeUnitEncoding.by_unit g.Self.Units.CodeUnitEncoding.by_encoding
    (g.Self.InputIndexer.text c.args.self.now) _ c.code_units.ensures.units
