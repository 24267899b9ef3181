use Rattle.std.proofs.Common.{ℕ, arith}
use Rattle.regress_memo.specs.AnalysisAsPotentials.{count_bound_of}
use Rattle.regress_memo.proofs.KeyCodeDigits.{few-next}
use Rattle.regress_memo.proofs.analysis_result.MemoAnalysis.code_count_at.Goals as goal

pub loop-row-preserved : goal.loop-row-preserved
loop-row-preserved c =
    let up : ℕ → ℕ = λ i. (count_bound_of c.args.self.now i).up_to in
    record {
      few = omega arith;
      product =
          few-next up c.enclosing_loops-rows.result.now c.loop-row.row-index _ c.loop-row-test.true c.loop-row.codes c.number_of_digit_values-answers.result _
          c.number_of_digit_values-answers.ensures.answers c.loop-row.invariant.product;
    }
