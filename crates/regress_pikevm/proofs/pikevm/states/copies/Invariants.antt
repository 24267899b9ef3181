use Rattle.std.proofs.Common.{◌≡◌, replicate}
use Rattle.regress_pikevm.proofs.pikevm.states.copies.Given as goal

abbrev pub invariant-loop : goal.invariant-loop
invariant-loop g l = l.values.items ≡ replicate l.counter l.value
