use Rattle.std.proofs.Common.{sym, ◌∙◌}
use Rattle.regress_bounded.proofs.ContentsSearchLemmas.{resume-short}
use Rattle.regress_bounded.proofs.lookarounds.current_or_resumed_state.Goals as goal

pub returns-in_err-spend-clause-resumes : goal.returns-in_err-spend-clause-resumes
returns-in_err-spend-clause-resumes g c =
    resume-short g.P.PositionType.offset c.args.next c.args.stack.now.items c.pop.new.self.items c.in-Some.waiting c.args.progress.now.left c.spend.new.self.left
    (sym c.is_some.ensures ∙ c.if-is_some.false) c.in-Some.ensures.items c.from_residual.result c.in_err-spend.field-0.0 c.from_residual.ensures.1 c.in_err-spend.ensures.over
