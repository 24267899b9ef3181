use Rattle.std.proofs.Common.{◌≡◌, ◌≤◌, Some, arith}
use Rattle.regex_meaning.specs.CompilationRelation.{Insn}
use Rattle.regress_search.specs.TreePlanAndText.{insn_at}
use Rattle.regress_program.proofs.AlternationDispatchLemmas.{below-more}
use Rattle.regress_backtrack.specs.RepeatableLoopBodies.{LookaroundInsnContinuesBy}
use Rattle.regress_backtrack.proofs.surplus_required_iterations.lookarounds_end_by.Goals as goal

pub loop-ip-init : goal.loop-ip-init
loop-ip-init g c = λ k after before. absurd (omega (arith, after, before))

pub loop-ip-preserved : goal.loop-ip-preserved
loop-ip-preserved g c =
    let w = g.W.SearchContext.searching c.args.context.now in
    λ k after less. below-more (λ k. c.args.from ≤ k → (insn : Insn) → insn_at w k ≡ Some insn → LookaroundInsnContinuesBy c.args.to insn) c.loop-ip.ip
    (λ k less after. c.loop-ip.invariant k after less) (λ after. c.lookaround_op_continues_by.ensures c.if-not-lookaround_op_continues_by.false) k less after

pub returns : goal.returns
returns g c = λ yes k after less. c.loop-ip.invariant k after (omega (arith, less, c.loop-ip-test.false))
