use Rattle.std.proofs.Common.{◌≡◌, ◌≤◌, ◌<◌, ℕ, Some}
use Rattle.regex_meaning.specs.CompilationRelation.{Insn}
use Rattle.regress_search.specs.TreePlanAndText.{program_of, insn_at}
use Rattle.regress_backtrack.specs.RepeatableLoopBodies.{StaysInBody, LookaroundContentsStayInside}
use Rattle.regress_backtrack.proofs.surplus_required_iterations.is_closed_forward_body.Given as goal

abbrev pub invariant-loop-ip : goal.invariant-loop-ip
invariant-loop-ip g l =
    let w = g.W.SearchContext.searching l.context in
    (k : ℕ) → l.from ≤ k → k < l.ip → (insn : Insn) → insn_at w k ≡ Some insn → StaysInBody l.changes (program_of w) l.end k insn × LookaroundContentsStayInside l.changes (program_of w) l.from k insn
