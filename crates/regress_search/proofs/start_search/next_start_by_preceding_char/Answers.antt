use Rattle.std.proofs.Common.{inl, inr, refl, sym}
use Rattle.regress_program.specs.TableKeysOfUnits.{is_16_bit_encoding}
use Rattle.regress_search.proofs.LookbehindStartLemmas.{first-behind}
use Rattle.regress_search.proofs.StartSearchLemmas.{few-leads}
use Rattle.regress_search.proofs.start_search.next_start_by_preceding_char.Goals as goal

pub start_after_unit-requires-clause-leads : goal.start_after_unit-requires-clause-leads
start_after_unit-requires-clause-leads g c = λ single_unit.
    few-leads c.args.before.keys (is_16_bit_encoding (g.W.SearchContext.searching c.args.context.now).encoding) (c.requires.leads single_unit) single_unit

pub start_after_unit-requires-else-edge-clause-leads : goal.start_after_unit-requires-else-edge-clause-leads
start_after_unit-requires-else-edge-clause-leads g c = λ single_unit.
    few-leads c.args.before.keys (is_16_bit_encoding (g.W.SearchContext.searching c.args.context.now).encoding) (c.requires.leads single_unit) single_unit

pub returns-in-Some : goal.returns-in-Some
returns-in-Some g c =
    let w = g.W.SearchContext.searching c.args.context.now in
    first-behind w (g.met.W.SearchContext.has_units c.args.context.now) c.args.before c.args.from c.offset_in_searched_text.result c.requires.at
    (inl (rw (← c.input.ensures.text, ← c.position_in_searched_text.ensures, c.offset_in_searched_text.ensures) (sym c.in-Some.ensures.read)))
    c.start_after_unit.result c.start_after_unit.ensures

pub returns-else-edge : goal.returns-else-edge
returns-else-edge g c =
    let w = g.W.SearchContext.searching c.args.context.now in
    first-behind w (g.met.W.SearchContext.has_units c.args.context.now) c.args.before c.args.from c.args.from c.requires.at
    (inr (rw (← c.input.ensures.text, ← c.position_in_searched_text.ensures) (sym c.in-None.ensures.read), refl, c.if-edge.false))
    c.start_after_unit-else-edge.result c.start_after_unit-else-edge.ensures
