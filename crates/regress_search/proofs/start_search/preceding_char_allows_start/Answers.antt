use Rattle.std.proofs.Common.{◌≡◌, Some, sym, arith}
use Rattle.regex_meaning.specs.Text.{leftwards}
use Rattle.regress_input.specs.CharAndByteReadsFromOffset.{past}
use Rattle.regress_input.proofs.BoundaryPositions.{before_ahead, boundary_inside}
use Rattle.regress_search.proofs.start_search.preceding_char_allows_start.Goals as goal

pub unit_key_at_offset-requires : goal.unit_key_at_offset-requires
unit_key_at_offset-requires g c =
    let w = g.W.SearchContext.searching c.args.context.now in
    let is = g.met.W.SearchContext.is_text c.args.context.now in
    let inside = boundary_inside w.text is c.args.at c.requires in
    let led : past w.text leftwards c.args.at ≡ Some c.offset_in_searched_text.result =
    rw (← c.input.ensures.text, ← c.position_in_searched_text.ensures, c.offset_in_searched_text.ensures) (sym c.in-Some.ensures.read) in
    let less = before_ahead w.text is c.args.at c.offset_in_searched_text.result led in
    omega (arith, inside, less)
