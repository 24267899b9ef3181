use Rattle.std.proofs.Common.{Some, sym, ◌∙◌}
use Rattle.regress_program.specs.TableKeysOfUnits.{is_16_bit_encoding}
use Rattle.regress_program.specs.declared.plan.CandidateStarts.TheVariants.{Anywhere, InSet, FewUnits, Behind, Prefix}
use Rattle.regress_search.proofs.AllowedUnitTables.{try-as, few-known, prefix-known, try-anywhere}
use Rattle.regress_search.proofs.StartSearchLemmas.{low-leads}
use Rattle.regress_search.proofs.start_search.first_candidate.Goals as goal

pub returns-in-Anywhere-clause-first : goal.returns-in-Anywhere-clause-first
returns-in-Anywhere-clause-first g c =
    let w = g.W.SearchContext.searching c.args.context.now in
    let from = c.args.from in
    try-as w Anywhere (sym c.start_filter_of_plan.ensures.start ∙ c.in-Anywhere.is) from (Some from) (try-anywhere w from c.requires)

pub returns-in-InSet-clause-first : goal.returns-in-InSet-clause-first
returns-in-InSet-clause-first g c = try-as (g.W.SearchContext.searching c.args.context.now) (InSet c.in-InSet.set) (sym c.start_filter_of_plan.ensures.start ∙ c.in-InSet.is) c.args.from c.next_in_set.result c.next_in_set.ensures

pub next_of_few_units-requires-clause-leads : goal.next_of_few_units-requires-clause-leads
next_of_few_units-requires-clause-leads g c =
    let w = g.W.SearchContext.searching c.args.context.now in
    let few = few-known w (FewUnits c.in-FewUnits.few) (sym c.start_filter_of_plan.ensures.start ∙ c.in-FewUnits.is) c.start_filter_of_plan.ensures.plan_fits.few in
    low-leads c.in-FewUnits.few (is_16_bit_encoding w.encoding) few.1

pub returns-in-FewUnits-clause-first : goal.returns-in-FewUnits-clause-first
returns-in-FewUnits-clause-first g c = try-as (g.W.SearchContext.searching c.args.context.now) (FewUnits c.in-FewUnits.few) (sym c.start_filter_of_plan.ensures.start ∙ c.in-FewUnits.is) c.args.from c.next_of_few_units.result c.next_of_few_units.ensures

pub next_start_by_preceding_char-requires-clause-leads : goal.next_start_by_preceding_char-requires-clause-leads
next_start_by_preceding_char-requires-clause-leads g c =
    let w = g.W.SearchContext.searching c.args.context.now in
    (prefix-known w (Behind c.in-Behind.before) (sym c.start_filter_of_plan.ensures.start ∙ c.in-Behind.is) c.start_filter_of_plan.ensures.plan_fits.prefix).leads

pub returns-in-Behind-clause-first : goal.returns-in-Behind-clause-first
returns-in-Behind-clause-first g c = try-as (g.W.SearchContext.searching c.args.context.now) (Behind c.in-Behind.before) (sym c.start_filter_of_plan.ensures.start ∙ c.in-Behind.is) c.args.from c.next_start_by_preceding_char.result c.next_start_by_preceding_char.ensures

pub next_prefix_by_prefilter-requires-clause-some : goal.next_prefix_by_prefilter-requires-clause-some
next_prefix_by_prefilter-requires-clause-some g c =
    let w = g.W.SearchContext.searching c.args.context.now in
    (prefix-known w (Prefix c.in-Prefix.prefix c.in-Prefix.prefilter) (sym c.start_filter_of_plan.ensures.start ∙ c.in-Prefix.is) c.start_filter_of_plan.ensures.plan_fits.prefix).0

pub next_prefix_by_prefilter-requires-clause-ascii : goal.next_prefix_by_prefilter-requires-clause-ascii
next_prefix_by_prefilter-requires-clause-ascii g c =
    let w = g.W.SearchContext.searching c.args.context.now in
    (prefix-known w (Prefix c.in-Prefix.prefix c.in-Prefix.prefilter) (sym c.start_filter_of_plan.ensures.start ∙ c.in-Prefix.is) c.start_filter_of_plan.ensures.plan_fits.prefix).2

pub next_prefix_by_prefilter-requires-clause-filter : goal.next_prefix_by_prefilter-requires-clause-filter
next_prefix_by_prefilter-requires-clause-filter g c =
    let w = g.W.SearchContext.searching c.args.context.now in
    (prefix-known w (Prefix c.in-Prefix.prefix c.in-Prefix.prefilter) (sym c.start_filter_of_plan.ensures.start ∙ c.in-Prefix.is) c.start_filter_of_plan.ensures.plan_fits.prefix).3

pub returns-in-Prefix-clause-first : goal.returns-in-Prefix-clause-first
returns-in-Prefix-clause-first g c = try-as (g.W.SearchContext.searching c.args.context.now) (Prefix c.in-Prefix.prefix c.in-Prefix.prefilter) (sym c.start_filter_of_plan.ensures.start ∙ c.in-Prefix.is) c.args.from c.next_prefix_by_prefilter.result c.next_prefix_by_prefilter.ensures
