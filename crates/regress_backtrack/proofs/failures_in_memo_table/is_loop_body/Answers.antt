use Rattle.std.proofs.Common.{◌-◌, ◌∙◌, ap, is_some, sym}
use Rattle.regress_search.specs.TreePlanAndText.{program_of}
use Rattle.regress_backtrack.proofs.ThreadKeyLemmas.{no-run, no-run-before}
use Rattle.regress_backtrack.proofs.failures_in_memo_table.is_loop_body.Goals as goal

pub returns-in-Some : goal.returns-in-Some
returns-in-Some g c = λ h.
    let w = g.W.SearchContext.searching c.args.context.now in
    no-run-before (program_of w) c.args.ip
    (λ insn is. no-run (program_of w) w.plan (c.args.ip - 1) insn _ (c.op_at.ensures.plan_fits.each (c.args.ip - 1) _ insn (sym c.in-Some.ensures.op) is)
    (ap is_some (sym c.as_char_loop.ensures) ∙ sym c.is_some.ensures ∙ h))
