use Rattle.std.proofs.Common.{◌≡◌, false, min, sym, ap, ◌∙◌, arith}
use Rattle.regex_meaning.specs.Outcomes.{is_some_and}
use Rattle.regress_input.specs.CharAndByteReadsFromOffset.{is_byte_encoding}
use Rattle.regress_program.specs.Leaps.{is_passed_key}
use Rattle.regress_search.proofs.LeapLemmas.{passed-as-cut}
use Rattle.regress_search.proofs.WideUnitLemmas.{unit-wide}
use Rattle.regress_search.proofs.leaping.may_read_unit_on_way_to_goal.Goals as goal

pub returns-then-ARE_BYTES : goal.returns-then-ARE_BYTES
returns-then-ARE_BYTES g c = sym (ap (λ o. is_some_and o (is_passed_key c.args.leap.now)) c.unit_key_at_offset.ensures.is)

pub returns-then-unit-lt128 : goal.returns-then-unit-lt128
returns-then-unit-lt128 g c =
    let w = g.W.SearchContext.searching c.args.context.now in
    let no : g.W.Input.Units.CodeUnitEncoding.ARE_BYTES ≡ false = cc (c.ARE_BYTES.ensures, c.if-ARE_BYTES.false) in
    let low = c.if-unit-lt128.true in
    let cut : c.unit_at_offset-unit.result ≡ min c.unit_at_offset-unit.result 128 = omega (arith, low) in
    ap (is_passed_key c.args.leap.now) cut
    ∙ passed-as-cut w (g.met.W.SearchContext.has_units c.args.context.now) c.args.leap.now c.requires.alike
    (unit-wide w.encoding (ap is_byte_encoding (g.met.W.SearchContext.encoding c.args.context.now) ∙ sym g.W.Input.Units.CodeUnitEncoding.by_encoding ∙ no))
    c.args.at c.unit_at_offset-unit.result c.unit_at_offset-unit.ensures

pub returns : goal.returns
returns g c =
    let w = g.W.SearchContext.searching c.args.context.now in
    let no : g.W.Input.Units.CodeUnitEncoding.ARE_BYTES ≡ false = cc (c.ARE_BYTES.ensures, c.if-ARE_BYTES.false) in
    let high = c.if-unit-lt128.false in
    let cut : 128 ≡ min c.unit_at_offset-unit.result 128 = omega (arith, high) in
    ap (is_passed_key c.args.leap.now) cut
    ∙ passed-as-cut w (g.met.W.SearchContext.has_units c.args.context.now) c.args.leap.now c.requires.alike
    (unit-wide w.encoding (ap is_byte_encoding (g.met.W.SearchContext.encoding c.args.context.now) ∙ sym g.W.Input.Units.CodeUnitEncoding.by_encoding ∙ no))
    c.args.at c.unit_at_offset-unit.result c.unit_at_offset-unit.ensures
