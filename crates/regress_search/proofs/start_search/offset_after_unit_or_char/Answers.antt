use Rattle.std.proofs.Common.{◌≡◌, true, false, ap, sym, ◌∙◌}
use Rattle.regress_input.specs.CharAndByteReadsFromOffset.{is_byte_encoding}
use Rattle.regress_search.proofs.StartSearchLemmas.{past-byte, past-character}
use Rattle.regress_search.proofs.start_search.offset_after_unit_or_char.Goals as goal

pub returns-then-ARE_BYTES : goal.returns-then-ARE_BYTES
returns-then-ARE_BYTES g c =
    let w = g.W.SearchContext.searching c.args.context.now in
    let are = ap is_byte_encoding (g.met.W.SearchContext.encoding c.args.context.now) ∙ sym g.W.Input.Units.CodeUnitEncoding.by_encoding in
    let yes : g.W.Input.Units.CodeUnitEncoding.ARE_BYTES ≡ true = cc (c.ARE_BYTES.ensures, c.if-ARE_BYTES.true) in
    past-byte w.text (is_byte_encoding w.encoding) (are ∙ yes) c.args.at c.requires.inside

pub offset_after_char-requires-clause-at : goal.offset_after_char-requires-clause-at
offset_after_char-requires-clause-at g c =
    let are = ap is_byte_encoding (g.met.W.SearchContext.encoding c.args.context.now) ∙ sym g.W.Input.Units.CodeUnitEncoding.by_encoding in
    let no : g.W.Input.Units.CodeUnitEncoding.ARE_BYTES ≡ false = cc (c.ARE_BYTES.ensures, c.if-ARE_BYTES.false) in
    c.requires.at (are ∙ no)

pub returns-else-ARE_BYTES : goal.returns-else-ARE_BYTES
returns-else-ARE_BYTES g c =
    let w = g.W.SearchContext.searching c.args.context.now in
    past-character w.text (g.met.W.SearchContext.is_text c.args.context.now) (is_byte_encoding w.encoding) c.args.at c.offset_after_char.result c.offset_after_char.ensures
