use Rattle.regress_backtrack.proofs.CandidateStartLemmas.{first-tried}
use Rattle.regress_backtrack.proofs.next_candidate_start_by_plan.first_candidate_start_from.Goals as goal

pub returns-clause-next : goal.returns-clause-next
returns-clause-next g c =
    first-tried (g.W.SearchContext.searching c.args.context.now) (g.met.W.SearchContext.has_units c.args.context.now) c.first_candidate.ensures.plan_fits c.requires.executable
    c.args.from c.first_candidate.result c.first_candidate.ensures.first
