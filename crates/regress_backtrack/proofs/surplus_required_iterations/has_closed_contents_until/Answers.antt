use Rattle.std.proofs.Common.{◌≡◌, ◌≤◌, ◌+◌, ◌-◌, Some, arith}
use Rattle.regex_meaning.specs.CompilationRelation.{Insn}
use Rattle.regress_search.specs.TreePlanAndText.{program_of, insn_at}
use Rattle.regress_program.proofs.AlternationDispatchLemmas.{below-more}
use Rattle.regress_backtrack.specs.RepeatableLoopBodies.{StaysInBody}
use Rattle.regress_backtrack.proofs.surplus_required_iterations.has_closed_contents_until.Goals as goal

pub loop-inner-init : goal.loop-inner-init
loop-inner-init g c = λ k after before. absurd (omega (arith, after, before))

pub loop-inner-preserved : goal.loop-inner-preserved
loop-inner-preserved g c =
    let w = g.W.SearchContext.searching c.args.context.now in
    λ k after less. below-more (λ k. c.args.ip + 1 ≤ k → (insn : Insn) → insn_at w k ≡ Some insn → StaysInBody c.args.changes (program_of w) (c.args.past - 1) k insn) c.loop-inner.inner
    (λ k less after. c.loop-inner.invariant k after less) (λ after. c.stays_in_body.ensures c.if-not-stays_in_body.false) k less after

pub returns-clause-stay : goal.returns-clause-stay
returns-clause-stay g c = λ yes k after less. c.loop-inner.invariant k after (omega (arith, less, c.loop-inner-test.false))
