use Rattle.regress_memo.specs.AnalysisChecks.{IsCoveredAt}
use Rattle.regress_memo.proofs.AnalysisCheckLemmas.{at-step}
use Rattle.regress_memo.proofs.analysis_result.MemoAnalysis.covers_successors_at.Goals as goal

pub returns-in-Run : goal.returns-in-Run
returns-in-Run c = λ h program has.
    at-step (λ s. IsCoveredAt c.args.self.now program s c.args.ip) program c.args.insns.now c.args.ip _ has c.in-Run.ensures
    (c.covers_char_loop.ensures h program)
