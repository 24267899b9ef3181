use Rattle.std.proofs.Common.{◌<◌, ℕ, slice_get}
use Rattle.regex_meaning.specs.CompilationRelation.{Program}
use Rattle.regress_memo.specs.ContentsApart.{is_on_side_of, FlowsOnSide}
use Rattle.regress_memo.specs.Successors.{DeclaredInsnsEqualProgramInsns, successors_of_insn_if_any}
use Rattle.regress_memo.proofs.apart_contents.is_apart.Given as goal

abbrev pub invariant-loop-ip : goal.invariant-loop-ip
invariant-loop-ip l =
    (program : Program) → DeclaredInsnsEqualProgramInsns program l.insns → (k : ℕ) → k < l.ip
    → FlowsOnSide (is_on_side_of l.fn.contents.from l.fn.contents.past k) program (successors_of_insn_if_any k (slice_get program.insns k)) k
