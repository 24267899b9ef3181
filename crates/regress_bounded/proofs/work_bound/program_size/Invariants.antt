use Rattle.std.proofs.Common.{◌≡◌, ◌^◌, ◌-◌, min, take, sum_by}
use Rattle.regress_program.specs.InsnsAsSpec.{insn_as_spec_insn}
use Rattle.regress_bounded.specs.WorkBoundForAllMatches.{work_size_of_insn}
use Rattle.regress_bounded.proofs.work_bound.program_size.Given as goal

abbrev pub invariant-loop-insn : goal.invariant-loop-insn
invariant-loop-insn l = l.all ≡ min (sum_by (λ x. work_size_of_insn (insn_as_spec_insn x)) (take l.insn-index l.insns)) (2 ^ 64 - 1)
