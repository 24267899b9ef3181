use Rattle.regress_c.proofs.InWorkLemmas.{work_bound_or_refusal-by}
use Rattle.regress_c.proofs.first_match_in_work.work_bound_or_refusal.Goals as goal

pub returns-clause-work_bound_result : goal.returns-clause-work_bound_result
returns-clause-work_bound_result c = work_bound_or_refusal-by _ c.in-Some.re.value c.deref.result.now _ c.in-Some.ensures.taken c.deref.ensures c.in_ok-found.ensures.enough
