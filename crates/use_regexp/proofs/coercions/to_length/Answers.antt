use Rattle.use_regexp.proofs.CoercionLemmas.{length-by_min}
use Rattle.use_regexp.proofs.coercions.to_length.Goals as goal

pub returns : goal.returns
returns c = length-by_min c.args.number c.saturating_f64_to_u64.result c.min.result c.saturating_f64_to_u64.ensures c.min.ensures
