use Rattle.std.proofs.Common.{◌≡◌, true, false, take, ap, sym, subst, ◌∙◌}
use Rattle.regex_pattern_front.specs.FirstPassingIndex.{is_member_byte_at_index}
use Rattle.regress_input.specs.CharAndByteReadsFromOffset.{bytes_of, is_byte_encoding, IsFirstOccurrenceFrom}
use Rattle.regress_input.proofs.BoundaryPositions.{boundary_inside}
use Rattle.regress_search.proofs.StartSearchLemmas.{few-found}
use Rattle.regress_search.proofs.WideUnitLemmas.{unit-wide}
use Rattle.regress_search.proofs.start_search.next_of_few_units.Goals as goal

pub returns-then-ARE_BYTES : goal.returns-then-ARE_BYTES
returns-then-ARE_BYTES g c =
    let w = g.W.SearchContext.searching c.args.context.now in
    let from = c.args.from in
    let few = c.args.few in
    let is : g.W.Input.Units.CodeUnitEncoding.ARE_BYTES ≡ true = cc (c.ARE_BYTES.ensures, c.if-ARE_BYTES.true) in
    let bytes : is_byte_encoding w.encoding ≡ true = ap is_byte_encoding (g.met.W.SearchContext.encoding c.args.context.now) ∙ sym g.W.Input.Units.CodeUnitEncoding.by_encoding ∙ is in
    let inside = boundary_inside w.text (g.met.W.SearchContext.is_text c.args.context.now) from c.requires.at in
    few-found w (g.met.W.SearchContext.has_units c.args.context.now) few from bytes c.requires.leads inside c.find.result
    (subst (λ b. IsFirstOccurrenceFrom b (λ bs. is_member_byte_at_index (take few.len few.units) bs) (bytes_of w.text) from c.find.result) bytes c.find.ensures)

pub next_of_few_wide_units-requires-clause-wide : goal.next_of_few_wide_units-requires-clause-wide
next_of_few_wide_units-requires-clause-wide g c =
    let w = g.W.SearchContext.searching c.args.context.now in
    let no : g.W.Input.Units.CodeUnitEncoding.ARE_BYTES ≡ false = cc (c.ARE_BYTES.ensures, c.if-ARE_BYTES.false) in
    unit-wide w.encoding (ap is_byte_encoding (g.met.W.SearchContext.encoding c.args.context.now) ∙ sym g.W.Input.Units.CodeUnitEncoding.by_encoding ∙ no)
