use Rattle.std.proofs.Common.{◌≡◌, ◌≤◌, Some, arith}
use Rattle.regex_meaning.specs.CompilationRelation.{Insn}
use Rattle.regress_search.specs.TreePlanAndText.{program_of, insn_at}
use Rattle.regress_program.proofs.AlternationDispatchLemmas.{below-more}
use Rattle.regress_backtrack.specs.RepeatableLoopBodies.{StaysInBody, LookaroundContentsStayInside}
use Rattle.regress_backtrack.proofs.surplus_required_iterations.is_closed_forward_body.Goals as goal

pub loop-ip-init : goal.loop-ip-init
loop-ip-init g c = λ k after before. absurd (omega (arith, after, before))

pub loop-ip-preserved : goal.loop-ip-preserved
loop-ip-preserved g c =
    let w = g.W.SearchContext.searching c.args.context.now in
    λ k after less. below-more (λ k. c.args.from ≤ k → (insn : Insn) → insn_at w k ≡ Some insn → StaysInBody c.args.changes (program_of w) c.args.end k insn × LookaroundContentsStayInside c.args.changes (program_of w) c.args.from k insn) c.loop-ip.ip
    (λ k less after. c.loop-ip.invariant k after less)
    (λ after insn is. (c.stays_in_body.ensures c.if-not-stays_in_body.false insn is, c.has_closed_contents.ensures c.if-not-has_closed_contents.false insn is)) k less after

pub returns : goal.returns
returns g c = λ yes k after less. c.loop-ip.invariant k after (omega (arith, less, c.loop-ip-test.false))
