use Rattle.regress_match.proofs.WorkBoundLemmas.{searches-cost}
use Rattle.regress_match.proofs.api.laws.call_costs_are_work_spent.Goals as goal

pub returns : goal.returns
returns g c = let p = g.P.SearchState in searches-cost p.costs p.tree p.text p.failures
