use Rattle.std.proofs.Common.{◌≡◌, [], ◌∷◌, refl, ap, sym, ◌∙◌, subst}
use Rattle.regex_meaning.specs.CodeUnitOffsets.{units}
use Rattle.regress_machine.specs.Machine.{running}
use Rattle.regress_memo.specs.MemoKeys.{IsSoundState}
use Rattle.regress_memo.specs.declared.analysis_result.MemoAnalysis.{MemoAnalysis}
use Rattle.regress_memo.specs.declared.analysis_result.InsnAnalysis.{InsnAnalysis}
use Rattle.regress_memo.specs.AnalysisAsPotentials.{insn_analysis_of, analysis_as_liveness, insn_direction}
use Rattle.regress_backtrack.specs.State.{current_thread_state_of}
use Rattle.regress_backtrack.proofs.ThreadKeyLemmas.{key-of-thread, stored-key, same-way}
use Rattle.regress_backtrack.proofs.failures_in_memo_table.MemoTableFailureMemo.key_at.Goals as goal

pub returns : goal.returns
returns g c =
    let w = g.W.SearchContext.searching c.args.context.now in
    let t = c.args.self.now.memo_analysis in
    let s = current_thread_state_of c.args.memory.now c.args.thread.here.ip c.args.thread.here.at in
    let line : c.insn_analysis_at-line.result ≡ insn_analysis_of t s.ip = c.insn_analysis_at-line.ensures ∙ ap (λ (x : MemoAnalysis). insn_analysis_of x s.ip) c.memo_analysis.ensures in
    let forward = sym (ap (λ (x : InsnAnalysis). x.forward) line) ∙ same-way _ _ c.if-line-forward.false in
    let sound =
    subst (λ (x : MemoAnalysis). IsSoundState (analysis_as_liveness x) (units w.text) (insn_direction x s.ip) s) c.memo_analysis-2.ensures
    (subst (λ top. IsSoundState (analysis_as_liveness c.memo_analysis-2.result.now) top (insn_direction c.memo_analysis-2.result.now s.ip) s) c.text_end-end.ensures
    ((c.is_reachable_loop_state.ensures s refl refl refl).0 c.if-not-is_reachable_loop_state.false)) in
    stored-key w t c.args.thread.forward (running s ∷ []) _ c.record_key_of.result c.record_key_of.ensures
    (key-of-thread w t c.args.thread.forward s _ (sym (c.in_ok-key.ensures.key s refl refl refl)) (c.is_loop_body.ensures c.if-is_loop_body.false) forward
    (c.has_all_slots.ensures c.if-not-has_all_slots.false s.ip s.pos) sound)
