use Rattle.regress_program.proofs.FirstSetLemmas.{AreToldBelow}
use Rattle.regress_program.proofs.first_set_type.FirstSet.with_unlike_keys.Given as goal

abbrev pub invariant-loop-key : goal.invariant-loop-key
invariant-loop-key l = AreToldBelow l.self l.others l.told l.key
