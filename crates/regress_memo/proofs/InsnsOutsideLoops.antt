-- The first instruction is outside all loops, like each one without enclosing loops in the
-- analysis.
use Rattle.std.proofs.Common.{◌≡◌, ℕ, false, [], ap}
use Rattle.regex_meaning.specs.CompilationRelation.{Program}
use Rattle.regress_memo.specs.declared.analysis_result.MemoAnalysis.{MemoAnalysis}
use Rattle.regress_memo.specs.declared.analysis_result.LoopProgressFact.TheVariants.{Inside}
use Rattle.regress_memo.specs.AnalysisAsPotentials.{states_loop_fact, enclosing_loops_of, analysis_as_liveness}
use Rattle.regress_memo.specs.CheckedAnalysis.{IsAnalysisOf}

pub outside-loops : (t : MemoAnalysis) (ip : ℕ) → enclosing_loops_of t ip ≡ [] → (l : ℕ) → (analysis_as_liveness t).inside ip l ≡ false
outside-loops t ip none l = ap (λ rows. states_loop_fact Inside l rows) none

pub starts-outside : (program : Program) (t : MemoAnalysis) → IsAnalysisOf program t → (l : ℕ) → (analysis_as_liveness t).inside 0 l ≡ false
starts-outside program t of l = outside-loops t 0 of.starts.rows l
