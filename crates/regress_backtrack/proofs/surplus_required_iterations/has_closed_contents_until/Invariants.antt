use Rattle.std.proofs.Common.{◌≡◌, ◌≤◌, ◌<◌, ◌+◌, ◌-◌, ℕ, Some}
use Rattle.regex_meaning.specs.CompilationRelation.{Insn}
use Rattle.regress_search.specs.TreePlanAndText.{program_of, insn_at}
use Rattle.regress_backtrack.specs.RepeatableLoopBodies.{StaysInBody}
use Rattle.regress_backtrack.proofs.surplus_required_iterations.has_closed_contents_until.Given as goal

abbrev pub invariant-loop-inner : goal.invariant-loop-inner
invariant-loop-inner g l =
    let w = g.W.SearchContext.searching l.context in
    (k : ℕ) → l.ip + 1 ≤ k → k < l.inner → (insn : Insn) → insn_at w k ≡ Some insn → StaysInBody l.changes (program_of w) (l.past - 1) k insn
