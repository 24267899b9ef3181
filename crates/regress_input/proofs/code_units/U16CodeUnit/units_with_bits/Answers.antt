use Rattle.std.proofs.Common.{w16, sym, subst}
use Rattle.std.proofs.lemmas.List.{map-id}
use Rattle.regress_input.specs.TextCodeUnits.{MarksUnitsWithBits}
use Rattle.regress_input.proofs.MarkedUnitLemmas.{compared, compared-marks}
use Rattle.regress_input.proofs.code_units.U16CodeUnit.units_with_bits.Goals as goal

pub returns : goal.returns
returns c =
    let us = c.args.all.now in
    subst (λ all. MarksUnitsWithBits all c.args.at c.args.mask c.args.bits (compared w16 us c.args.at c.args.mask c.args.bits)) (sym (map-id us))
    (compared-marks w16 us c.args.at c.args.mask c.args.bits c.requires)
