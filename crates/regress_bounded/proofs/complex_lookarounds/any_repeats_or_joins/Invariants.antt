use Rattle.std.proofs.Common.{◌≡◌, ◌≤◌, ◌<◌, ℕ, false, map, slice_get}
use Rattle.regress_program.specs.InsnsAsSpec.{insn_as_spec_insn}
use Rattle.regress_bounded.specs.Unboundedness.{repeats_or_joins}
use Rattle.regress_bounded.proofs.complex_lookarounds.any_repeats_or_joins.Given as goal

abbrev pub invariant-loop-ip : goal.invariant-loop-ip
invariant-loop-ip l = let code = map insn_as_spec_insn l.insns in
    (k : ℕ) → l.fn.first ≤ k → k < l.ip → repeats_or_joins code (slice_get code k) ≡ false
