use Rattle.regress_input.proofs.AsciiByteSets.{below_128}
use Rattle.test_inputs.proofs.matches.ascii_set.Goals as goal

pub returns : goal.returns
returns c = below_128 _
