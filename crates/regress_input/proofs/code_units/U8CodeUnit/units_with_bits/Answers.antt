use Rattle.std.proofs.Common.{w8, sym, subst, ◌%◌}
use Rattle.std.proofs.lemmas.List.{map-id}
use Rattle.regress_input.specs.TextCodeUnits.{MarksUnitsWithBits}
use Rattle.regress_input.proofs.MarkedUnitLemmas.{compared, compared-marks, marks-none, marks-narrow}
use Rattle.regress_input.proofs.code_units.U8CodeUnit.units_with_bits.Goals as goal

pub returns-then-bits-gt255 : goal.returns-then-bits-gt255
returns-then-bits-gt255 c =
    let us = c.args.all.now in
    subst (λ all. MarksUnitsWithBits all c.args.at c.args.mask c.args.bits 0) (sym (map-id us))
    (marks-none us (λ k less. (c.items_fit k).fits) c.args.at c.args.mask c.args.bits c.requires c.if-bits-gt255.true)

pub returns : goal.returns
returns c =
    let us = c.args.all.now in
    let narrow = c.args.mask % 256 in
    subst (λ all. MarksUnitsWithBits all c.args.at c.args.mask c.args.bits (compared w8 us c.args.at narrow c.args.bits)) (sym (map-id us))
    (marks-narrow us (λ k less. (c.items_fit k).fits) c.args.at c.args.mask c.args.bits c.requires (compared w8 us c.args.at narrow c.args.bits)
    (compared-marks w8 us c.args.at narrow c.args.bits c.requires))
