use Rattle.std.proofs.Common.{◌≡◌, ◌≤◌, ◌*◌, ℕ, drop}
use Rattle.regress_memo.specs.LoopDataKeyCodes.{codes_of}
use Rattle.regress_memo.specs.AnalysisAsPotentials.{count_bound_of, questions_on}
use Rattle.regress_memo.proofs.analysis_result.MemoAnalysis.code_count_at.Given as goal

abbrev pub invariant-loop-row : goal.invariant-loop-row
invariant-loop-row l =
    let up : ℕ → ℕ = λ i. (count_bound_of l.self i).up_to in
    record {
      few : l.codes ≤ 64;
      product : l.codes * codes_of (questions_on up (drop l.row-index l.rows)) ≡ codes_of (questions_on up l.rows);
    }
