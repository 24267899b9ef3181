use Rattle.std.proofs.Common.{◌≡◌, true, subst, sym, ◌∙◌}
use Rattle.std.proofs.lemmas.Option.{slice_get-get_or}
use Rattle.regress_memo.specs.AnalysisAsPotentials.{states_loop_fact}
use Rattle.regress_memo.proofs.LoopFactFlowLemmas.{holds-there}
use Rattle.regress_memo.proofs.analysis_result.MemoAnalysis.states_loop_fact.Goals as goal

pub returns-then-entry_states_loop_fact : goal.returns-then-entry_states_loop_fact
returns-then-entry_states_loop_fact c = λ _.
    let rows = c.enclosing_loops-rows.result.now in
    subst (λ rows. states_loop_fact c.args.said c.args.id rows ≡ true) c.enclosing_loops-rows.ensures
    (holds-there c.args.said c.args.id rows c.loop-row.row-index _ (slice_get-get_or rows c.loop-row.row-index _ c.loop-row-test.true)
    c.if-row-id.true (sym c.entry_states_loop_fact.ensures ∙ c.if-entry_states_loop_fact.true))
