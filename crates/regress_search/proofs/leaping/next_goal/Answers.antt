use Rattle.std.proofs.Common.{◌≡◌, false, ap, sym, ◌∙◌, arith}
use Rattle.regress_input.specs.CharAndByteReadsFromOffset.{is_byte_encoding}
use Rattle.regress_input.proofs.BoundaryPositions.{boundary_inside}
use Rattle.regress_program.specs.TableKeysOfUnits.{is_16_bit_encoding}
use Rattle.regress_search.proofs.LeapLemmas.{goal-not128}
use Rattle.regress_search.proofs.StartSearchLemmas.{low-leads, low-listed}
use Rattle.regress_search.proofs.WideUnitLemmas.{unit-wide, low-told, wide-found}
use Rattle.regress_search.proofs.leaping.next_goal.Goals as goal

pub next_of_few_units-requires-clause-leads : goal.next_of_few_units-requires-clause-leads
next_of_few_units-requires-clause-leads g c =
    let w = g.W.SearchContext.searching c.args.context.now in
    low-leads c.args.leap.now.goal (is_16_bit_encoding w.encoding) c.requires.ascii.low

pub first_unit_with_listed_key-requires-clause-told : goal.first_unit_with_listed_key-requires-clause-told
first_unit_with_listed_key-requires-clause-told g c = goal-not128 c.args.leap.now c.requires.ascii

pub first_unit_with_listed_key-requires-clause-order : goal.first_unit_with_listed_key-requires-clause-order
first_unit_with_listed_key-requires-clause-order g c =
    let inside = boundary_inside (g.W.SearchContext.searching c.args.context.now).text (g.met.W.SearchContext.is_text c.args.context.now) c.args.from c.requires.at in
    let end = c.text_end.ensures in
    omega (arith, inside, end)

pub returns-else-ARE_BYTES : goal.returns-else-ARE_BYTES
returns-else-ARE_BYTES g c =
    let w = g.W.SearchContext.searching c.args.context.now in
    let leap = c.args.leap.now in
    let no : g.W.Input.Units.CodeUnitEncoding.ARE_BYTES ≡ false = cc (c.ARE_BYTES.ensures, c.if-ARE_BYTES.false) in
    let wide = unit-wide w.encoding (ap is_byte_encoding (g.met.W.SearchContext.encoding c.args.context.now) ∙ sym g.W.Input.Units.CodeUnitEncoding.by_encoding ∙ no) in
    wide-found w (g.met.W.SearchContext.has_units c.args.context.now) wide leap.goal
    (λ k listed. low-told k (low-listed leap.goal k c.requires.ascii.low listed)) c.args.from c.text_end.result c.first_unit_with_listed_key.result c.text_end.ensures c.first_unit_with_listed_key.ensures
