use Rattle.std.proofs.Common.{◌≡◌, ◌≤◌, ◌<◌, ℕ, Some}
use Rattle.regex_meaning.specs.CompilationRelation.{Insn}
use Rattle.regress_machine.specs.LoopsReadingNothing.{ReadsNothingAndLeadsOnward}
use Rattle.regress_search.specs.TreePlanAndText.{insn_at}
use Rattle.regress_search.proofs.nonreading_bodies.are_nonreading_forward_ops.Given as goal

abbrev pub invariant-loop-ip : goal.invariant-loop-ip
invariant-loop-ip g l =
    (k : ℕ) → l.from ≤ k → k < l.ip → (insn : Insn) → insn_at (g.W.SearchContext.searching l.context) k ≡ Some insn → ReadsNothingAndLeadsOnward l.forks l.end k insn
