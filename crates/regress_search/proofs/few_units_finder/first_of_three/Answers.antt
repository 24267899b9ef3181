use Rattle.std.proofs.Common.{rules}
use Rattle.regress_search.proofs.StartSearchLemmas.{found-three}
use Rattle.regress_search.proofs.few_units_finder.first_of_three.Goals as goal

pub returns : goal.returns
returns c = found-three c.args.units c.args.bytes.now c.memchr3.result (search rules) c.memchr3.ensures
