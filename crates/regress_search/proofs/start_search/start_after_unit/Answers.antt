use Rattle.regress_search.proofs.LookbehindStartLemmas.{unit-inside}
use Rattle.regress_search.proofs.start_search.start_after_unit.Goals as goal

pub offset_after_char-requires-clause-inside : goal.offset_after_char-requires-clause-inside
offset_after_char-requires-clause-inside g c =
    let w = g.W.SearchContext.searching c.args.context.now in
    unit-inside w (g.met.W.SearchContext.has_units c.args.context.now) c.args.few c.in_ok-hit.hit c.in_ok-hit.ensures.2
