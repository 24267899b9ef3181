use Rattle.regress_program.proofs.FirstSetLemmas.{AreCompared}
use Rattle.regress_program.proofs.first_set_type.FirstSet.is_superset_of.Given as goal

abbrev pub invariant-loop-key : goal.invariant-loop-key
invariant-loop-key l = AreCompared l.other l.self l.key l.lacks
