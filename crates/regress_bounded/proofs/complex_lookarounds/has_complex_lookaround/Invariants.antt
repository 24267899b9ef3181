use Rattle.std.proofs.Common.{◌≡◌, ◌<◌, ℕ, false, map}
use Rattle.regress_program.specs.InsnsAsSpec.{insn_as_spec_insn}
use Rattle.regress_bounded.specs.Unboundedness.{is_complex_lookaround}
use Rattle.regress_bounded.proofs.complex_lookarounds.has_complex_lookaround.Given as goal

abbrev pub invariant-loop-ip : goal.invariant-loop-ip
invariant-loop-ip l = (k : ℕ) → k < l.ip → is_complex_lookaround (map insn_as_spec_insn l.insns) k ≡ false
