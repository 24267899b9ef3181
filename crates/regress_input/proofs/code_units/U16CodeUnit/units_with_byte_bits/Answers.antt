use Rattle.std.proofs.Common.{sym, subst, arith}
use Rattle.std.proofs.lemmas.List.{map-id}
use Rattle.regress_input.specs.TextCodeUnits.{MarksUnitsWithBits}
use Rattle.regress_input.proofs.MarkedUnitLemmas.{packed, packed-fit, packed-marks}
use Rattle.regress_input.proofs.code_units.U16CodeUnit.units_with_byte_bits.Goals as goal

pub overflow_cast-result-2 : goal.overflow_cast-result-2
overflow_cast-result-2 c = packed-fit c.args.all.now c.args.at c.args.mask c.args.bits (let small = c.ranges.mask.fits in omega (arith, small))

pub returns : goal.returns
returns c =
    let us = c.args.all.now in
    subst (λ all. MarksUnitsWithBits all c.args.at c.args.mask c.args.bits (packed us c.args.at c.args.mask c.args.bits)) (sym (map-id us))
    (packed-marks us c.args.at c.args.mask c.args.bits c.requires)
