use Rattle.std.proofs.Common.{◌^◌, ◌-◌, ◌∙◌, ap, min, sum_by, take_all}
use Rattle.regress_program.specs.InsnsAsSpec.{insn_as_spec_insn}
use Rattle.regress_bounded.specs.WorkBoundForAllMatches.{work_size_of_insn}
use Rattle.regress_bounded.proofs.ProgramSizeLemmas.{size-coded}
use Rattle.regress_bounded.proofs.work_bound.program_size.Goals as goal

pub returns : goal.returns
returns c =
    let all = take_all c.loop-insn.insn-index c.args.insns.now c.loop-insn-test.false in
    c.loop-insn.invariant ∙ ap (λ xs. min (sum_by (λ x. work_size_of_insn (insn_as_spec_insn x)) xs) (2 ^ 64 - 1)) all ∙ ap (λ n. min n (2 ^ 64 - 1)) (size-coded c.args.insns.now)
