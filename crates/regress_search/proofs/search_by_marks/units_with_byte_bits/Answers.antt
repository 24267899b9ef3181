use Rattle.std.proofs.Common.{◌≡◌, length, map, sym, ap, ◌∙◌, arith}
use Rattle.std.proofs.lemmas.List.{length-map}
use Rattle.regex_meaning.specs.CodeUnits.{text_units_in_encoding}
use Rattle.regress_input.proofs.UnitsAtBoundaries.{units-length}
use Rattle.regress_search.proofs.search_by_marks.units_with_byte_bits.Goals as goal

pub units_with_byte_bits-requires : goal.units_with_byte_bits-requires
units_with_byte_bits-requires g c =
    let w = g.W.SearchContext.searching c.args.context.now in
    let number = g.W.Input.Units.Unit.CodeUnit.number in
    let all = c.code_units-text.result.now in
    let same : map number all ≡ text_units_in_encoding w.encoding w.text =
    c.code_units-text.ensures.units
    ∙ ap (text_units_in_encoding g.W.Input.Units.CodeUnitEncoding.encoding) c.input.ensures.text
    ∙ ap (λ e. text_units_in_encoding e w.text) (sym (g.met.W.SearchContext.encoding c.args.context.now)) in
    let long = units-length w.encoding w.text (g.met.W.SearchContext.has_units c.args.context.now).spelled in
    omega (arith, c.requires, long, ap length same, length-map all number)
