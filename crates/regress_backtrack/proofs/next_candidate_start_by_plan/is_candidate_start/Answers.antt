use Rattle.std.proofs.Common.{refl, sym, ◌∙◌}
use Rattle.regress_backtrack.proofs.CandidateStartLemmas.{prefix-excludes}
use Rattle.regress_backtrack.proofs.next_candidate_start_by_plan.is_candidate_start.Goals as goal

pub returns : goal.returns
returns g c out =
    let w = g.W.SearchContext.searching c.args.context.now in
    let is = c.is_candidate.ensures.plan_fits in
    prefix-excludes w (g.met.W.SearchContext.has_units c.args.context.now) is c.requires.executable w.plan.start is.prefix refl c.args.at c.requires.at (sym c.is_candidate.ensures.may_start ∙ out)
