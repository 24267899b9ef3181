use Rattle.std.proofs.Common.{sym, ◌∙◌}
use Rattle.regress_memo.proofs.analysis_result.MemoAnalysis.may_end_iteration.Goals as goal
use Rattle.regress_memo.proofs.analysis_result.MemoAnalysis.may_end_iteration.Goals.{then-states_loop_fact, else-states_loop_fact}

pub returns-then-knows_iteration_reads : goal.returns-then-knows_iteration_reads
returns-then-knows_iteration_reads c = λ h. elim c.if-states_loop_fact.branch [
  | then-states_loop_fact w ↦ record {
    inside = c.states_loop_fact.ensures w.if-states_loop_fact.true;
    empty = w.knows_iteration_reads.ensures (sym w.value-is ∙ c.if-knows_iteration_reads.true);
    decides = c.decides.ensures h;
  }
  | else-states_loop_fact w ↦ let e = sym w.value-is ∙ c.if-knows_iteration_reads.true in cc
]
