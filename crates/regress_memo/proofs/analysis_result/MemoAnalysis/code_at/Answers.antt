use Rattle.std.proofs.Common.{ℕ, ap, arith}
use Rattle.regress_memo.specs.LoopDataKeyCodes.{codes_of}
use Rattle.regress_memo.specs.declared.loop_data_key_codes.KeyCodePrefix.{KeyCodePrefix}
use Rattle.regress_memo.specs.AnalysisAsPotentials.{count_bound_of, questions_on}
use Rattle.regress_memo.proofs.KeyCodeDigits.{few-here, so-far-next, so-far-done}
use Rattle.regress_memo.proofs.analysis_result.MemoAnalysis.code_at.Goals as goal

pub append_digit-digits-requires-clause-few : goal.append_digit-digits-requires-clause-few
append_digit-digits-requires-clause-few g c =
    let up : ℕ → ℕ = λ i. (count_bound_of c.args.self.now i).up_to in
    let here = few-here up c.enclosing_loops-rows.result.now c.loop-row.row-index _ c.loop-row-test.true c.args.at (g.R.IterationStatesOfAllLoops.rounds c.args.rounds.now)
    c.loop-row.digits.code c.loop-row.digits.codes c.number_of_digit_values-answers.result c.number_of_digit_values-answers.ensures.answers c.loop-row.invariant in
    let same = ap (λ rows. codes_of (questions_on up rows)) c.enclosing_loops-rows.ensures in
    let few = c.requires.few c.args.ip in
    omega (arith, here, same, few)

pub loop-row-preserved : goal.loop-row-preserved
loop-row-preserved g c =
    let up : ℕ → ℕ = λ i. (count_bound_of c.args.self.now i).up_to in
    let rows = c.enclosing_loops-rows.result.now in
    let loops = g.R.IterationStatesOfAllLoops.rounds c.args.rounds.now in
    so-far-next up rows c.loop-row.row-index _ c.loop-row-test.true c.args.at loops c.loop-row.digits.code c.loop-row.digits.codes
    c.number_of_digit_values-answers.result c.number_of_digit_values-answers.ensures.answers c.loop-row.invariant _ c.iteration_state_of_loop.ensures c.digit-digit.result c.digit-digit.ensures
    c.append_digit-digits.result.code c.append_digit-digits.result.codes (ap (λ (d : KeyCodePrefix). d.code) c.append_digit-digits.ensures)
    (ap (λ (d : KeyCodePrefix). d.codes) c.append_digit-digits.ensures)

pub returns : goal.returns
returns g c =
    let up : ℕ → ℕ = λ i. (count_bound_of c.args.self.now i).up_to in
    so-far-done up c.enclosing_loops-rows.result.now _ c.loop-row.row-index c.args.at (g.R.IterationStatesOfAllLoops.rounds c.args.rounds.now) c.loop-row.digits.code
    c.loop-row.digits.codes c.enclosing_loops-rows.ensures (omega arith) c.loop-row.invariant
