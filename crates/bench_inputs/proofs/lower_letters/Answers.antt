use Rattle.regress_input.proofs.AsciiByteSets.{below_128}
use Rattle.bench_inputs.proofs.lower_letters.Goals as goal

pub returns : goal.returns
returns c = below_128 _
