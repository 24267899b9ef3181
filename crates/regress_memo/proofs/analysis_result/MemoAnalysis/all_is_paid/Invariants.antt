use Rattle.std.proofs.Common.{◌<◌, ℕ, map, slice_get}
use Rattle.regress_program.specs.InsnsAsSpec.{insn_as_spec_insn}
use Rattle.regress_memo.specs.WorkBound.{IsStepWorkBounded}
use Rattle.regress_memo.specs.Successors.{successors_of_insn_if_any}
use Rattle.regress_memo.proofs.analysis_result.MemoAnalysis.all_is_paid.Given as goal

abbrev pub invariant-loop-ip : goal.invariant-loop-ip
invariant-loop-ip l = (k : ℕ) → k < l.ip → IsStepWorkBounded l.self (successors_of_insn_if_any k (slice_get (map insn_as_spec_insn l.insns) k)) k
