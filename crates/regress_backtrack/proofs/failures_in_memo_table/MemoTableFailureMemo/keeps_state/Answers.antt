use Rattle.std.proofs.Common.{◌≡◌, true, length, sym, ◌∙◌, ap₂}
use Rattle.regress_memo.specs.declared.analysis_result.MemoAnalysis.{MemoAnalysis}
use Rattle.regress_backtrack.specs.State.{current_thread_state_of}
use Rattle.regress_backtrack.specs.FailuresInMemoTable.{keeps_state_from}
use Rattle.regress_backtrack.proofs.failures_in_memo_table.MemoTableFailureMemo.keeps_state.Goals as goal

pub returns : goal.returns
returns g c = λ kept at inside.
    let s = current_thread_state_of c.args.memory.now c.args.ip at in
    let keeps : keeps_state_from c.args.self.now.memo_analysis s.ip (length s.loops) ≡ true =
    sym (c.keeps_state_from.ensures ∙ ap₂ (λ (x : MemoAnalysis) n. keeps_state_from x s.ip n) c.memo_analysis.ensures c.number_of_loops.ensures.length) ∙ kept in
    c.requires.sound.keeps s keeps inside
