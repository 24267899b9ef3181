use Rattle.std.proofs.Common.{◌≡◌, ◌<◌, ◌-◌, length, false, leb, sym, ap, ◌∙◌, arith}
use Rattle.std.proofs.lemmas.Bool.{leb-false, lt-leb}
use Rattle.std.proofs.lemmas.List.{length-map}
use Rattle.regex_meaning.specs.CodeUnits.{text_units_in_encoding}
use Rattle.regress_input.proofs.UnitsAtBoundaries.{units-length}
use Rattle.regress_input.proofs.BoundaryPositions.{boundary_inside}
use Rattle.regress_program.specs.PrefixesAndPrefilters.{units_allowed_by_prefix}
use Rattle.regress_program.specs.TableKeysOfUnits.{key, is_16_bit_encoding}
use Rattle.regress_search.specs.StartSearch.{unit_keys_of_text}
use Rattle.regress_search.proofs.PrefixUnitLemmas.{fits-short}
use Rattle.regress_search.proofs.start_search_by_bit_probes.prefix_fits_inlined.Goals as goal

pub overflow_sub-text_end : goal.overflow_sub-text_end
overflow_sub-text_end g c =
    let text = (g.W.SearchContext.searching c.args.context.now).text in
    let inside = boundary_inside text (g.met.W.SearchContext.is_text c.args.context.now) c.args.at c.requires in
    omega (arith, inside, c.text_end.ensures)

pub prefix_fits_at_offset-requires : goal.prefix_fits_at_offset-requires
prefix_fits_at_offset-requires g c =
    let text = (g.W.SearchContext.searching c.args.context.now).text in
    let inside = boundary_inside text (g.met.W.SearchContext.is_text c.args.context.now) c.args.at c.requires in
    omega (arith, inside, c.text_end.ensures, c.if-text_end-at.true)

pub returns-else-text_end-at : goal.returns-else-text_end-at
returns-else-text_end-at g c =
    let w = g.W.SearchContext.searching c.args.context.now in
    let prefix = c.args.prefix.now in
    let has = g.met.W.SearchContext.has_units c.args.context.now in
    let inside = boundary_inside w.text has.is_text c.args.at c.requires in
    let us = text_units_in_encoding w.encoding w.text in
    let count = length-map us (key (is_16_bit_encoding w.encoding)) in
    let long = units-length w.encoding w.text has.spelled in
    let few : c.text_end.result - c.args.at < prefix.len = omega (arith, c.if-text_end-at.false) in
    lt-leb prefix.len (c.text_end.result - c.args.at) few
    ∙ sym (fits-short (units_allowed_by_prefix prefix) (unit_keys_of_text w) c.args.at prefix.len (omega (arith, inside, count, long)) (omega (arith, few, count, long, c.text_end.ensures)))
