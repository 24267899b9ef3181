-- A work bound that holds by the saturated size of a program holds by its exact size.
use Rattle.std.proofs.Common.{◌≡◌, ◌≤◌, ◌^◌, ℕ, ◌-◌, ◌+◌, ◌*◌, true, List, map, min, sym, arith, sum_by}
use Rattle.std.specs.Prelude.{nat_le}
use Rattle.std.proofs.Math.Nat.{mul-le-mul_right}
use Rattle.std.proofs.lemmas.Bool.{leb-true}
use Rattle.std.proofs.lemmas.List.Folds.{fold-map}
use Rattle.regress_program.specs.InsnsAsSpec.{insn_as_spec_insn}
use Rattle.regress_program.specs.declared.instructions.Insn.{Insn as Coded}
use Rattle.regress_bounded.specs.WorkBoundForAllMatches.{work_size_of_insn}

-- Coded instructions have the size of the instructions that they specify.
pub size-coded : (insns : List Coded) → sum_by (λ x. work_size_of_insn (insn_as_spec_insn x)) insns ≡ sum_by work_size_of_insn (map insn_as_spec_insn insns)
size-coded insns = sym (fold-map (λ n x. n + work_size_of_insn x) insn_as_spec_insn 0 insns)

-- A bound that holds by the saturated size holds by the exact size.
pub few-by : (per_unit size number codes : ℕ) → number ≡ min size (2 ^ 64 - 1) → nat_le per_unit (64 * (number * codes)) ≡ true → per_unit ≤ 64 * (size * codes)
few-by per_unit size number codes is few =
    let more : number * codes ≤ size * codes = mul-le-mul_right codes (omega (arith, is)) in
    let within = leb-true per_unit (64 * (number * codes)) few in
    omega (arith, more, within)
