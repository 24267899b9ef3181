use Rattle.std.proofs.Common.{◌≡◌, ◌<◌, ℕ, Some}
use Rattle.regex_meaning.specs.CompilationRelation.{Insn}
use Rattle.regress_search.specs.TreePlanAndText.{insn_at}
use Rattle.regress_backtrack.specs.RepeatableLoopBodies.{IsNoBackreference}
use Rattle.regress_backtrack.proofs.surplus_required_iterations.has_no_backreference.Given as goal

abbrev pub invariant-loop-ip : goal.invariant-loop-ip
invariant-loop-ip g l = (k : ℕ) → k < l.ip → (insn : Insn) → insn_at (g.W.SearchContext.searching l.context) k ≡ Some insn → IsNoBackreference insn
