use Rattle.std.proofs.Common.{ℕ, drop}
use Rattle.regress_memo.specs.AnalysisAsPotentials.{count_bound_of}
use Rattle.regress_memo.proofs.KeyCodeDigits.{SoFar}
use Rattle.regress_memo.proofs.analysis_result.MemoAnalysis.code_at.Given as goal

abbrev pub invariant-loop-row : goal.invariant-loop-row
invariant-loop-row g l =
    let up : ℕ → ℕ = λ i. (count_bound_of l.self i).up_to in
    SoFar up l.rows (drop l.row-index l.rows) l.at (g.R.IterationStatesOfAllLoops.rounds l.rounds) l.digits.code l.digits.codes
