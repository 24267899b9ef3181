use Rattle.std.proofs.Common.{Some, None, refl, ap, sym, ◌∙◌, arith}
use Rattle.regex_meaning.specs.CodeUnitOffsets.{units}
use Rattle.regress_input.specs.CharAndByteReadsFromOffset.{is_byte_encoding}
use Rattle.regress_input.proofs.BoundaryPositions.{boundary_inside}
use Rattle.regress_search.proofs.StartSearchLemmas.{found-in}
use Rattle.regress_search.proofs.start_search.find.Goals as goal

pub find_bytes-requires : goal.find_bytes-requires
find_bytes-requires g c =
    let w = g.W.SearchContext.searching c.args.context.now in
    let inside = boundary_inside w.text (g.met.W.SearchContext.is_text c.args.context.now) c.args.from c.requires in
    record { inside = omega (arith, inside, c.position_in_searched_text-pos.ensures, ap units c.input.ensures.text) }

pub returns-in-Some : goal.returns-in-Some
returns-in-Some g c =
    let bytes = g.W.Input.Units.CodeUnitEncoding.by_encoding ∙ sym (ap is_byte_encoding (g.met.W.SearchContext.encoding c.args.context.now)) in
    found-in (g.W.SearchContext.searching c.args.context.now) (g.Search.ByteSearcher.stands_at c.args.search.now) c.args.from _
    bytes c.input.ensures.text c.position_in_searched_text-pos.ensures (sym (ap Some c.offset_in_searched_text.ensures)) c.in-Some.ensures

pub returns-in-None : goal.returns-in-None
returns-in-None g c =
    let bytes = g.W.Input.Units.CodeUnitEncoding.by_encoding ∙ sym (ap is_byte_encoding (g.met.W.SearchContext.encoding c.args.context.now)) in
    found-in (g.W.SearchContext.searching c.args.context.now) (g.Search.ByteSearcher.stands_at c.args.search.now) c.args.from None
    bytes c.input.ensures.text c.position_in_searched_text-pos.ensures refl c.in-None.ensures
