use Rattle.std.proofs.Common.{sym, ◌∙◌, ap, not, arith}
use Rattle.std.proofs.Math.Facts.{Fits-lt-pow}
use Rattle.regex_meaning.specs.CodeUnits.{AreU16Units}
use Rattle.regress_input.proofs.Utf16Reads.{boundary-start, boundary-end, boundary-inside}
use Rattle.regress_input.proofs.utf16_decoding.is_unit_boundary.Goals as goal

pub returns-then-i-eq0 : goal.returns-then-i-eq0
returns-then-i-eq0 c =
    let small : AreU16Units c.args.units.now = λ k l. Fits-lt-pow (c.type_inv.units k) in
    sym (boundary-start c.args.units.now small c.args.i c.if-i-eq0.true)

pub returns-then-i-units : goal.returns-then-i-units
returns-then-i-units c =
    let small : AreU16Units c.args.units.now = λ k l. Fits-lt-pow (c.type_inv.units k) in
    sym (boundary-end c.args.units.now small c.args.i c.if-i-units.true)

pub returns : goal.returns
returns c =
    let small : AreU16Units c.args.units.now = λ k l. Fits-lt-pow (c.type_inv.units k) in
    ap not c.is_surrogate_pair_at_offset.ensures ∙ sym (boundary-inside c.args.units.now small c.args.i c.if-i-eq0.false (omega (arith, c.if-i-units.false)))
