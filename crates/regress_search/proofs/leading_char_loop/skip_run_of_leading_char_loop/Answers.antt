use Rattle.std.proofs.Common.{sym, arith}
use Rattle.regress_search.proofs.LeadingLoopOperations.{leads-bounded, leads-readable, leads-boundary, leads-vain}
use Rattle.regress_search.proofs.leading_char_loop.skip_run_of_leading_char_loop.Goals as goal

pub char_loop_bounds_with_number-requires : goal.char_loop_bounds_with_number-requires
char_loop_bounds_with_number-requires g c =
    leads-bounded (g.W.SearchContext.searching c.args.context.now) (g.met.W.SearchContext.has_units c.args.context.now) c.class_by_number.ensures.plan_fits c.args.opens c.requires.opens c.args.run c.requires.run

pub end_of_class_chars-requires-clause-class : goal.end_of_class_chars-requires-clause-class
end_of_class_chars-requires-clause-class g c =
    leads-readable (g.W.SearchContext.searching c.args.context.now) (g.met.W.SearchContext.has_units c.args.context.now) c.class_by_number.ensures.plan_fits c.args.opens c.requires.opens c.args.run c.requires.run
    c.requires.executable c.char_loop_bounds_with_number.result.now c.char_loop_bounds_with_number.ensures (omega (arith, c.if-most-end.false, c.text_end-end.ensures))
    c.in-Some.class.now (sym c.in-Some.ensures.class) (c.class_by_number.ensures.plan_fits.classes c.args.run.class c.in-Some.class.now (sym c.in-Some.ensures.class)) (g.met.W.SearchContext.literals c.args.context.now)

pub returns-clause-at : goal.returns-clause-at
returns-clause-at g c =
    leads-boundary (g.W.SearchContext.searching c.args.context.now) (g.met.W.SearchContext.has_units c.args.context.now) c.class_by_number.ensures.plan_fits c.args.opens c.requires.opens c.args.run c.requires.run
    c.requires.executable c.char_loop_bounds_with_number.result.now c.char_loop_bounds_with_number.ensures (omega (arith, c.if-most-end.false, c.text_end-end.ensures))
    c.in-Some.class.now (sym c.in-Some.ensures.class) c.args.from c.requires.at c.end_of_class_chars.result c.end_of_class_chars.ensures

pub returns-clause-no_match : goal.returns-clause-no_match
returns-clause-no_match g c =
    leads-vain (g.W.SearchContext.searching c.args.context.now) (g.met.W.SearchContext.has_units c.args.context.now) c.class_by_number.ensures.plan_fits c.args.opens c.requires.opens c.args.run c.requires.run
    c.requires.executable c.char_loop_bounds_with_number.result.now c.char_loop_bounds_with_number.ensures (omega (arith, c.if-most-end.false, c.text_end-end.ensures))
    c.in-Some.class.now (sym c.in-Some.ensures.class) c.args.from c.requires.at c.end_of_class_chars.result c.end_of_class_chars.ensures
