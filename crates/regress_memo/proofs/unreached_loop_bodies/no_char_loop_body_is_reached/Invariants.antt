use Rattle.std.proofs.Common.{◌<◌, ℕ, slice_get}
use Rattle.regex_meaning.specs.CompilationRelation.{Program}
use Rattle.regress_memo.specs.UnreachedCharLoopBodies.{FlowsPastBodies}
use Rattle.regress_memo.specs.Successors.{DeclaredInsnsEqualProgramInsns, successors_of_insn_if_any}
use Rattle.regress_memo.proofs.unreached_loop_bodies.no_char_loop_body_is_reached.Given as goal

abbrev pub invariant-loop-ip : goal.invariant-loop-ip
invariant-loop-ip l =
    (program : Program) → DeclaredInsnsEqualProgramInsns program l.insns → (k : ℕ) → k < l.ip → FlowsPastBodies program (successors_of_insn_if_any k (slice_get program.insns k)) k
