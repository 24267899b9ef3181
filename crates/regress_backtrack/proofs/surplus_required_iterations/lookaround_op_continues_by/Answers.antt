use Rattle.std.proofs.Common.{◌≤◌, ap, sym, subst, ◌∙◌, Bor}
use Rattle.std.specs.Prelude.{option_map}
use Rattle.std.proofs.lemmas.Bool.{leb-true}
use Rattle.regress_search.specs.TreePlanAndText.{program_of}
use Rattle.regress_program.specs.declared.ops.Op.{Op}
use Rattle.regress_backtrack.proofs.LoopBodyOperations.{op-ends-by}
use Rattle.regress_backtrack.proofs.surplus_required_iterations.lookaround_op_continues_by.Goals as goal

pub returns-in-Some : goal.returns-in-Some
returns-in-Some g c = λ yes insn is.
    let w = g.W.SearchContext.searching c.args.context.now in
    let s = c.in-Some in
    op-ends-by (program_of w) w.plan c.args.ip c.args.to s.op.now insn (subst (λ n. n ≤ c.args.to) c.op_after_lookaround.ensures (leb-true c.op_after_lookaround.result c.args.to yes))
    (c.op_at.ensures.plan_fits.each c.args.ip s.op.now insn (sym c.op_at.ensures.op ∙ ap (option_map (λ (o : Bor Op). o.now)) s.is) is)
