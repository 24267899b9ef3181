use Rattle.std.proofs.Common.{true, false}
use Rattle.std.proofs.lemmas.List.{get_or-replicate}
use Rattle.regress_program.proofs.first_set_type.FirstSet.nothing.Goals as goal

pub returns-clause-keys : goal.returns-clause-keys
returns-clause-keys c = λ k below. get_or-replicate 256 k false true below
