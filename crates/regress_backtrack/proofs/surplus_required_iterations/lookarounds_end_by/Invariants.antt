use Rattle.std.proofs.Common.{◌≡◌, ◌≤◌, ◌<◌, ℕ, Some}
use Rattle.regex_meaning.specs.CompilationRelation.{Insn}
use Rattle.regress_search.specs.TreePlanAndText.{insn_at}
use Rattle.regress_backtrack.specs.RepeatableLoopBodies.{LookaroundInsnContinuesBy}
use Rattle.regress_backtrack.proofs.surplus_required_iterations.lookarounds_end_by.Given as goal

abbrev pub invariant-loop-ip : goal.invariant-loop-ip
invariant-loop-ip g l = (k : ℕ) → l.from ≤ k → k < l.ip → (insn : Insn) → insn_at (g.W.SearchContext.searching l.context) k ≡ Some insn → LookaroundInsnContinuesBy l.to insn
