use Rattle.std.proofs.Common.{◌<◌, ap, sym, subst, ◌∙◌, Bor}
use Rattle.std.specs.Prelude.{option_map}
use Rattle.std.proofs.lemmas.Bool.{ltb-true}
use Rattle.regress_search.specs.TreePlanAndText.{program_of}
use Rattle.regress_program.specs.declared.ops.Op.{Op}
use Rattle.regress_backtrack.proofs.LoopBodyOperations.{insn-of, op-continues-after}
use Rattle.regress_backtrack.proofs.surplus_required_iterations.lookaround_continues_after.Goals as goal

pub returns-in-Some : goal.returns-in-Some
returns-in-Some g c = λ yes.
    let w = g.W.SearchContext.searching c.args.context.now in
    let s = c.in-Some in
    let i = insn-of _ (program_of w) w.plan c.op_at.ensures.plan_fits c.args.l s.op.now (sym c.op_at.ensures.op ∙ ap (option_map (λ (o : Bor Op). o.now)) s.is) in
    op-continues-after (program_of w) w.plan c.args.l c.args.ip s.op.now i.insn (subst (λ n. c.args.ip < n) c.op_after_lookaround.ensures (ltb-true c.args.ip c.op_after_lookaround.result yes)) i.is_there i.is
