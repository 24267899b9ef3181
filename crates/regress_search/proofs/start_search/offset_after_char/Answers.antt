use Rattle.std.proofs.Common.{◌≡◌, Some, sym, ap, subst, arith}
use Rattle.regex_meaning.specs.CodeUnitOffsets.{IsBoundary, units}
use Rattle.regex_meaning.specs.Text.{rightwards}
use Rattle.regress_input.specs.CharAndByteReadsFromOffset.{past}
use Rattle.regress_search.proofs.start_search.offset_after_char.Goals as goal

pub past-requires : goal.past-requires
past-requires g c =
    let text = sym c.input.ensures.text in
    let at = sym c.position_in_searched_text.ensures in
    record {
      inside = omega (arith, c.requires.inside, c.position_in_searched_text.ensures, ap units c.input.ensures.text);
      at = subst (λ t. IsBoundary t (g.W.Input.Position.PositionType.offset c.position_in_searched_text.result)) text (subst (IsBoundary (g.W.SearchContext.searching c.args.context.now).text) at c.requires.at);
    }

pub returns : goal.returns
returns g c = rw (c.offset_in_searched_text.ensures, ← c.position_in_searched_text.ensures, ← c.input.ensures.text) c.past.ensures
