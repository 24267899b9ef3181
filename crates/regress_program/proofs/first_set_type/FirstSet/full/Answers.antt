use Rattle.regress_program.proofs.FirstSetLemmas.{full-all}
use Rattle.regress_program.proofs.first_set_type.FirstSet.full.Goals as goal

pub returns : goal.returns
returns c = full-all 256
