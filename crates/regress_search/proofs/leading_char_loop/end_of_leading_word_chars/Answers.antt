use Rattle.std.proofs.Common.{◌≡◌, Some, ap, sym, ◌∙◌, arith, Bor}
use Rattle.std.specs.Prelude.{option_map}
use Rattle.regress_program.specs.declared.ops.Op.{Op}
use Rattle.regress_input.proofs.BoundaryPositions.{boundary_inside}
use Rattle.regress_search.proofs.WordLemmas.{word-end, word-vain}
use Rattle.regress_search.proofs.leading_char_loop.end_of_leading_word_chars.Goals as goal

pub overflow_sub-left : goal.overflow_sub-left
overflow_sub-left g c =
    let text = (g.W.SearchContext.searching c.args.context.now).text in
    let inside = boundary_inside text (g.met.W.SearchContext.is_text c.args.context.now) c.args.from c.requires.at in
    omega (arith, inside, c.text_end.ensures)

pub count_passing-requires : goal.count_passing-requires
count_passing-requires g c =
    let text = (g.W.SearchContext.searching c.args.context.now).text in
    let inside = boundary_inside text (g.met.W.SearchContext.is_text c.args.context.now) c.args.from c.requires.at in
    omega (arith, inside, c.text_end.ensures)

pub returns-clause-at : goal.returns-clause-at
returns-clause-at g c =
    let w = g.W.SearchContext.searching c.args.context.now in
    word-end w (g.met.W.SearchContext.has_units c.args.context.now) c.op_at.ensures.plan_fits c.requires.executable c.in-Some-WordEdge.edge (sym c.op_at.ensures.op ∙ ap (option_map (λ (o : Bor Op). o.now)) c.in-Some-WordEdge.is ∙ ap Some c.in-Some-WordEdge.field-0-is) c.if-edge.false
    c.args.from c.count_passing.result c.requires.at c.count_passing.ensures.run.each

pub returns-clause-no_match : goal.returns-clause-no_match
returns-clause-no_match g c =
    let w = g.W.SearchContext.searching c.args.context.now in
    word-vain w (g.met.W.SearchContext.has_units c.args.context.now) c.op_at.ensures.plan_fits c.requires.executable c.in-Some-WordEdge.edge (sym c.op_at.ensures.op ∙ ap (option_map (λ (o : Bor Op). o.now)) c.in-Some-WordEdge.is ∙ ap Some c.in-Some-WordEdge.field-0-is) c.if-edge.false
    c.args.from c.count_passing.result c.count_passing.ensures.run.each
