use Rattle.std.proofs.Common.{sym, ◌∙◌, arith}
use Rattle.regress_input.proofs.BoundaryPositions.{boundary_inside}
use Rattle.regress_search.specs.WideUnits.{bits_identify_key}
use Rattle.regress_search.proofs.WideUnitLemmas.{all-listed, listed-told, wide-found, wide-leads}
use Rattle.regress_search.proofs.start_search.next_of_few_wide_units.Goals as goal

pub first_unit_with_listed_key-requires-clause-told : goal.first_unit_with_listed_key-requires-clause-told
first_unit_with_listed_key-requires-clause-told g c = listed-told c.args.few (sym c.do_bits_identify_units.ensures ∙ c.if-do_bits_identify_units.true)

pub first_unit_with_listed_key-requires-clause-order : goal.first_unit_with_listed_key-requires-clause-order
first_unit_with_listed_key-requires-clause-order g c =
    let inside = boundary_inside (g.W.SearchContext.searching c.args.context.now).text (g.met.W.SearchContext.is_text c.args.context.now) c.args.from c.requires.at in
    let end = c.text_end.ensures in
    omega (arith, inside, end)

pub returns-then-do_bits_identify_units : goal.returns-then-do_bits_identify_units
returns-then-do_bits_identify_units g c =
    wide-found (g.W.SearchContext.searching c.args.context.now) (g.met.W.SearchContext.has_units c.args.context.now) c.requires.wide c.args.few
    (λ k listed. all-listed bits_identify_key c.args.few.units c.args.few.len k (sym c.do_bits_identify_units.ensures ∙ c.if-do_bits_identify_units.true) listed)
    c.args.from c.text_end.result c.first_unit_with_listed_key.result c.text_end.ensures c.first_unit_with_listed_key.ensures

pub first_allowed_offset-requires-clause-leads : goal.first_allowed_offset-requires-clause-leads
first_allowed_offset-requires-clause-leads g c = wide-leads (g.W.SearchContext.searching c.args.context.now).encoding c.requires.wide c.args.few
