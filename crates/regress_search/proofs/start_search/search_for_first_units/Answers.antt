use Rattle.std.proofs.Common.{sym, ◌∙◌}
use Rattle.regress_program.specs.TableKeysOfUnits.{is_16_bit_encoding}
use Rattle.regress_search.proofs.LookbehindStartLemmas.{unit-inside}
use Rattle.regress_search.proofs.StartSearchLemmas.{first-lead, misses-all, misses-before, misses-begin, misses-go}
use Rattle.regress_search.proofs.start_search.search_for_first_units.Goals as goal

pub misses-init : goal.misses-init
misses-init g c = misses-begin (g.W.SearchContext.searching c.args.context.now) c.args.prefix.now c.args.from c.requires.at

pub next_of_few_units-requires-clause-leads : goal.next_of_few_units-requires-clause-leads
next_of_few_units-requires-clause-leads g c =
    first-lead c.args.prefix.now c.requires.prefix.1 c.args.few (is_16_bit_encoding (g.W.SearchContext.searching c.args.context.now).encoding) c.requires.few

pub returns-in_default : goal.returns-in_default
returns-in_default g c =
    misses-all (g.W.SearchContext.searching c.args.context.now) c.args.prefix.now c.args.from (g.met.W.SearchContext.has_units c.args.context.now) c.requires.prefix.0 c.requires.prefix.1 c.args.few c.requires.few
    c.misses.at c.misses.invariant c.in_default.ensures

pub returns-then-prefix_fits_inlined : goal.returns-then-prefix_fits_inlined
returns-then-prefix_fits_inlined g c =
    let s =
    misses-before (g.W.SearchContext.searching c.args.context.now) c.args.prefix.now c.args.from (g.met.W.SearchContext.has_units c.args.context.now) c.requires.prefix.0 c.requires.prefix.1 c.args.few c.requires.few
    c.misses.at c.in-Some.hit c.misses.invariant c.in-Some.ensures in
    (s.boundary, s.ahead, sym c.prefix_fits_inlined.ensures ∙ c.if-prefix_fits_inlined.true, s.none)

pub offset_after_char-at-requires-clause-inside : goal.offset_after_char-at-requires-clause-inside
offset_after_char-at-requires-clause-inside g c =
    unit-inside (g.W.SearchContext.searching c.args.context.now) (g.met.W.SearchContext.has_units c.args.context.now) c.args.few c.in-Some.hit c.in-Some.ensures.2

pub misses-preserved : goal.misses-preserved
misses-preserved g c =
    let s =
    misses-before (g.W.SearchContext.searching c.args.context.now) c.args.prefix.now c.args.from (g.met.W.SearchContext.has_units c.args.context.now) c.requires.prefix.0 c.requires.prefix.1 c.args.few c.requires.few
    c.misses.at c.in-Some.hit c.misses.invariant c.in-Some.ensures in
    misses-go (g.W.SearchContext.searching c.args.context.now) c.args.prefix.now c.args.from (g.met.W.SearchContext.is_text c.args.context.now) c.in-Some.hit c.offset_after_char-at.result
    s (sym c.prefix_fits_inlined.ensures ∙ c.if-prefix_fits_inlined.false) c.offset_after_char-at.ensures
