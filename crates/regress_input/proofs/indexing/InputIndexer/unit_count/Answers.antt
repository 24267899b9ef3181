use Rattle.regress_input.proofs.StoredUnitLemmas.{count-is}
use Rattle.regress_input.proofs.indexing.InputIndexer.unit_count.Goals as goal

pub returns : goal.returns
returns g c = count-is g.Self.Units.Unit.CodeUnit.number _ _ (g.met.Self.InputIndexer.spelled c.args.self.now) _ c.code_units.ensures.units
