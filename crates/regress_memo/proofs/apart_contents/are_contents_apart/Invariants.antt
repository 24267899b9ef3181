use Rattle.std.proofs.Common.{◌<◌, ℕ, slice_get}
use Rattle.regex_meaning.specs.CompilationRelation.{Program}
use Rattle.regress_memo.specs.ContentsApart.{IsApartIfLookaround}
use Rattle.regress_memo.specs.Successors.{DeclaredInsnsEqualProgramInsns, successors_of_insn_if_any}
use Rattle.regress_memo.proofs.apart_contents.are_contents_apart.Given as goal

abbrev pub invariant-loop-ip : goal.invariant-loop-ip
invariant-loop-ip l =
    (program : Program) → DeclaredInsnsEqualProgramInsns program l.insns → (k : ℕ) → k < l.ip → IsApartIfLookaround program (successors_of_insn_if_any k (slice_get program.insns k)) k
