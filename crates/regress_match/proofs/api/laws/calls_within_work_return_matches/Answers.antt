use Rattle.regress_match.proofs.WorkBoundLemmas.{calls-return}
use Rattle.regress_match.proofs.api.laws.calls_within_work_return_matches.Goals as goal

pub returns : goal.returns
returns g c = let p = g.P.SearchState in calls-return p.costs p.tree p.text p.failures
