use Rattle.std.proofs.Common.{◌≡◌, sym, ap, ◌∙◌, arith}
use Rattle.std.proofs.lemmas.Bool.{le-ltb}
use Rattle.regress_program.specs.declared.plan.CandidateStarts.TheVariants.{FewUnits}
use Rattle.regress_search.specs.StartSearch.{may_start_at, table_of_listed_units}
use Rattle.regress_search.proofs.WideUnitLemmas.{past-allowed}
use Rattle.regress_search.proofs.start_search.is_candidate.Goals as goal

pub returns-else-at-text_end-clause-may_start : goal.returns-else-at-text_end-clause-may_start
returns-else-at-text_end-clause-may_start g c =
    let w = g.W.SearchContext.searching c.args.context.now in
    let few = c.in-FewUnits.few in
    let is : w.plan.start ≡ FewUnits few = sym c.start_filter_of_plan.ensures.start ∙ c.in-FewUnits.is in
    le-ltb c.args.at c.text_end.result (omega (arith, c.if-at-text_end.false))
    ∙ sym (ap (λ start. may_start_at w start c.args.at) is
    ∙ past-allowed w (g.met.W.SearchContext.has_units c.args.context.now) (table_of_listed_units few) c.args.at (omega (arith, c.if-at-text_end.false, c.text_end.ensures)))
