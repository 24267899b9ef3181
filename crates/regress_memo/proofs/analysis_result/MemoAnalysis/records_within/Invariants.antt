use Rattle.std.proofs.Common.{◌≡◌, ◌≤◌, ◌<◌, ℕ, false}
use Rattle.regress_memo.specs.AnalysisAsPotentials.{insn_analysis_of}
use Rattle.regress_memo.proofs.analysis_result.MemoAnalysis.records_within.Given as goal

abbrev pub invariant-loop-inner : goal.invariant-loop-inner
invariant-loop-inner l = (k : ℕ) → l.ip ≤ k → k < l.inner → (insn_analysis_of l.self k).records ≡ false
