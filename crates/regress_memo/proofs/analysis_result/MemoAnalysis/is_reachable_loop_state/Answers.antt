use Rattle.std.proofs.Common.{slice_get, refl, ap, sym, ◌∙◌, arith}
use Rattle.std.proofs.lemmas.Option.{slice_get-get_or}
use Rattle.regress_memo.specs.declared.analysis_result.InsnAnalysis.{InsnAnalysis}
use Rattle.regress_memo.specs.declared.analysis_result.EnclosingLoop.{EnclosingLoop}
use Rattle.regress_memo.specs.ReachableThreadLoopStates.{direction_from_forward, ThreadLoopStateFitsAnalysis}
use Rattle.regress_memo.proofs.LoopFactFlowLemmas.{rows-more, rows-all}
use Rattle.regress_memo.proofs.ReachableLoopStateLemmas.{sound-all, sound-row-there}
use Rattle.regress_memo.proofs.analysis_result.MemoAnalysis.is_reachable_loop_state.Goals as goal

pub returns-then-not-is_sound_row : goal.returns-then-not-is_sound_row
returns-then-not-is_sound_row g c = λ s ip at loops. (
  λ h. cc,
  λ sound.
      let forward = ap (λ (x : InsnAnalysis). x.forward) c.insn_analysis_at-forward.ensures in
      let there = slice_get-get_or c.enclosing_loops-rows.result.now c.loop-row.row-index _ c.loop-row-test.true in
      let here = sound-row-there c.args.self.now c.args.units c.args.ip c.args.at (g.R.IterationStatesOfAllLoops.rounds c.args.rounds.now)
      c.insn_analysis_at-forward.result.forward forward s ip at loops c.enclosing_loops-rows.result.now c.enclosing_loops-rows.ensures sound c.loop-row.row-index _ there in
      sym c.if-not-is_sound_row.true ∙ c.is_sound_row.ensures.1 (λ x held. here x (sym c.iteration_state_of_loop-loop_iteration_state.ensures ∙ held)),
)

pub loop-row-preserved : goal.loop-row-preserved
loop-row-preserved g c =
    let loops = g.R.IterationStatesOfAllLoops.rounds c.args.rounds.now in
    rows-more (λ (row : EnclosingLoop). ThreadLoopStateFitsAnalysis c.args.self.now (direction_from_forward c.insn_analysis_at-forward.result.forward) c.args.units c.args.at (slice_get loops row.id) row)
    c.enclosing_loops-rows.result.now c.loop-row.row-index c.loop-row.invariant _ c.loop-row-test.true
    (λ x held. c.is_sound_row.ensures.0 c.if-not-is_sound_row.false x (c.iteration_state_of_loop-loop_iteration_state.ensures ∙ held))

pub returns : goal.returns
returns g c = λ s ip at loops.
    let held = g.R.IterationStatesOfAllLoops.rounds c.args.rounds.now in
    let forward = ap (λ (x : InsnAnalysis). x.forward) c.insn_analysis_at-forward.ensures in
    let past = c.if-at-units.false in (
      λ h. sound-all c.args.self.now c.args.units c.args.ip c.args.at held c.insn_analysis_at-forward.result.forward forward s ip at loops (omega (arith, past))
          (λ k row there.
          rows-all (λ (row : EnclosingLoop). ThreadLoopStateFitsAnalysis c.args.self.now (direction_from_forward c.insn_analysis_at-forward.result.forward) c.args.units c.args.at (slice_get held row.id) row)
          c.enclosing_loops-rows.result.now c.loop-row.row-index c.loop-row.invariant _ c.enclosing_loops-rows.ensures (omega arith) k row there),
      λ sound. refl,
    )
