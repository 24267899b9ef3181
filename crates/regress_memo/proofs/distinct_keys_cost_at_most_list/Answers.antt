use Rattle.regress_memo.proofs.DistinctListLemmas.{distinct-few}
use Rattle.regress_memo.proofs.distinct_keys_cost_at_most_list.Goals as goal

pub returns : goal.returns
returns c = distinct-few
