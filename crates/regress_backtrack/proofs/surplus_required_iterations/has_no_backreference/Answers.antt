use Rattle.std.proofs.Common.{◌≡◌, Some, arith}
use Rattle.regex_meaning.specs.CompilationRelation.{Insn}
use Rattle.regress_search.specs.TreePlanAndText.{program_of, insn_at}
use Rattle.regress_program.proofs.AlternationDispatchLemmas.{below-more}
use Rattle.std.proofs.lemmas.Option.{slice_get_within}
use Rattle.regress_backtrack.specs.RepeatableLoopBodies.{IsNoBackreference}
use Rattle.regress_backtrack.proofs.surplus_required_iterations.has_no_backreference.Goals as goal

pub loop-ip-init : goal.loop-ip-init
loop-ip-init g c = λ k before. absurd (omega (arith, before))

pub loop-ip-preserved : goal.loop-ip-preserved
loop-ip-preserved g c =
    let w = g.W.SearchContext.searching c.args.context.now in
    below-more (λ k. (insn : Insn) → insn_at w k ≡ Some insn → IsNoBackreference insn) c.loop-ip.ip c.loop-ip.invariant (c.may_be_backreference.ensures c.if-may_be_backreference.false)

pub returns : goal.returns
returns g c = λ yes k insn is.
    let w = g.W.SearchContext.searching c.args.context.now in
    let inside = slice_get_within (program_of w).insns k insn is in
    let many = c.number_of_ops-count.ensures.plan_fits.as_many in
    c.loop-ip.invariant k (omega (arith, inside, many, c.loop-ip-test.false)) insn is
