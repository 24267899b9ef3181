use Rattle.std.proofs.Common.{◌≡◌, ◌+◌, true, refl, ap, sym, ◌∙◌, subst}
use Rattle.std.proofs.lemmas.Bool.{not-false}
use Rattle.regex_meaning.specs.CodeUnitOffsets.{units}
use Rattle.regress_memo.specs.MemoKeys.{IsSoundState}
use Rattle.regress_memo.specs.declared.analysis_result.MemoAnalysis.{MemoAnalysis}
use Rattle.regress_memo.specs.declared.analysis_result.InsnAnalysis.{InsnAnalysis}
use Rattle.regress_memo.specs.AnalysisAsPotentials.{insn_analysis_of, analysis_as_liveness, insn_direction}
use Rattle.regress_memo.specs.MemoContents.{has_failure}
use Rattle.regress_backtrack.specs.State.{current_thread_state_of}
use Rattle.regress_backtrack.specs.FailuresInMemoTable.{scheme_of}
use Rattle.regress_backtrack.proofs.ThreadKeyLemmas.{same-way}
use Rattle.regress_backtrack.proofs.CharLoopKeyLemmas.{rest-tells, stored-rest}
use Rattle.regress_backtrack.proofs.failures_in_memo_table.MemoTableFailureMemo.unbounded_char_loop_rest_key.Goals as goal

pub returns : goal.returns
returns g c =
    let w = g.W.SearchContext.searching c.args.context.now in
    let is = g.met.W.SearchContext.is_text c.args.context.now in
    let t = c.args.self.now.memo_analysis in
    let from = c.args.run.here in
    let h = c.args.memory.now in
    let s = current_thread_state_of h (from.ip + 2) from.at in
    let line : c.insn_analysis_at-line.result ≡ insn_analysis_of t (from.ip + 1) = c.insn_analysis_at-line.ensures ∙ ap (λ (x : MemoAnalysis). insn_analysis_of x (from.ip + 1)) c.memo_analysis.ensures in
    let beyond : c.insn_analysis_at.result ≡ insn_analysis_of t (from.ip + 2) = c.insn_analysis_at.ensures ∙ ap (λ (x : MemoAnalysis). insn_analysis_of x (from.ip + 2)) c.memo_analysis-2.ensures in
    let records : (insn_analysis_of t (from.ip + 1)).records ≡ true = sym (ap (λ (x : InsnAnalysis). x.records) line) ∙ not-false _ c.if-not-line.false in
    let goes = sym (ap (λ (x : InsnAnalysis). x.forward) line) ∙ same-way _ _ c.if-line-forward.false in
    let on = sym (ap (λ (x : InsnAnalysis). x.forward) beyond) ∙ same-way _ _ c.if-insn_analysis_at-forward.false in
    let sound =
    subst (λ (x : MemoAnalysis). IsSoundState (analysis_as_liveness x) (units w.text) (insn_direction x s.ip) s) c.memo_analysis-3.ensures
    (subst (λ top. IsSoundState (analysis_as_liveness c.memo_analysis-3.result.now) top (insn_direction c.memo_analysis-3.result.now s.ip) s) c.text_end-end.ensures
    ((c.is_reachable_loop_state.ensures s refl refl refl).0 c.if-not-is_reachable_loop_state.false)) in
    stored-rest w (scheme_of t) c.args.run.forward from h _ c.record_key_of.result c.record_key_of.ensures
    (rest-tells w is t (λ k. has_failure c.args.self.now k) c.requires.sound c.args.run.forward from h _
    (sym (c.in_ok-key.ensures.key (current_thread_state_of h (from.ip + 1) from.at) refl refl refl)) records goes on
    (c.has_all_slots.ensures c.if-not-has_all_slots.false from.ip from.at) sound)
