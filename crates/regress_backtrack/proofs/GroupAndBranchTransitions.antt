-- A group instruction, jump or branch makes one transition, and a branch leaves its other arm pending.
use Rattle.std.proofs.Common.{◌≡◌, ℕ, ◌+◌, List, [], ◌∷◌, Option, Some, refl, ap, sym, ◌∙◌, subst, arith, length, map, ◌++◌}
use Rattle.std.specs.Prelude.{slice_get, slice_set}
use Rattle.regex_meaning.specs.CompilationRelation.{Insn, Jump, Alt, BeginCaptureGroup, EndCaptureGroup, ResetCaptureGroup}
use Rattle.regress_machine.specs.Machine.{State, Thread, Next, running, goes, go, with_some, range_swapped_if_leftwards, act, act_on}
use Rattle.regress_machine.specs.InsnEffects.{IsNotStuck}
use Rattle.regress_machine.proofs.InsnsNotStuck.{by-only}
use Rattle.regress_backtrack.specs.declared.state.ChoicePoint.{ChoicePoint}
use Rattle.regress_backtrack.specs.State.{StateModel, current_thread_state_of, ChangesStateUndoably, with_group_open, state_with_group_unset, with_group_range, with_choice_point_list}
use Rattle.regress_backtrack.specs.PendingThreads.{ResumePoint, pending_thread}
use Rattle.regress_backtrack.specs.StateTransitions.{SearchModel, TakesThreadTransition}
use Rattle.regress_backtrack.proofs.LeftThreadLemmas.{Replaces, replaces-goes}
use Rattle.regress_backtrack.proofs.StateTransitionLemmas.{unchanged, changed, only-choice_point_pushed}

module _ (r : SearchModel) (ip at : ℕ) (h : StateModel) where
  abbrev here : State
  here = current_thread_state_of h ip at

  abbrev on_at : ℕ → Option ResumePoint
  on_at to = Some (record { ip = to; at = at })

  -- An instruction continues from the state that the slots hold.
  went : (insn : Insn) → slice_get r.program.insns ip ≡ Some insn → (ts : List Thread) → act_on r.program r.text r.direction (Some insn) here ≡ goes ts
      → act r.program r.text r.direction here ≡ goes ts
  went insn is ts e = ap (λ o. act_on r.program r.text r.direction o here) is ∙ e

  can-here : (insn : Insn) → slice_get r.program.insns ip ≡ Some insn → IsNotStuck (act r.program r.text r.direction here) → IsNotStuck (act_on r.program r.text r.direction (Some insn) here)
  can-here insn is can = subst (λ o. IsNotStuck (act_on r.program r.text r.direction o here)) is can

  pub jumps : (target : ℕ) → slice_get r.program.insns ip ≡ Some (Jump target) → TakesThreadTransition r 1 ip at h h (on_at target)
  jumps target is =
      unchanged r 1 ip at h (on_at target) (omega arith)
      (replaces-goes r here (current_thread_state_of h target at ∷ []) (went (Jump target) is _ refl))

  -- A state that was changed continues at the next instruction.
  becomes-next : (change : State → State) (h' : StateModel) → ChangesStateUndoably change h h' → act r.program r.text r.direction here ≡ go (record (change here) { ip = ip + 1 })
      → ((s : State) → change (record s { ip = ip + 1 }) ≡ record (change s) { ip = ip + 1 }) → TakesThreadTransition r 1 ip at h h' (on_at (ip + 1))
  becomes-next change h' b e apart =
      changed r 1 ip at h change h' (on_at (ip + 1)) b (omega arith)
      (replaces-goes r here (current_thread_state_of h' (ip + 1) at ∷ [])
      (e ∙ ap (λ s. goes (running s ∷ [])) (sym (b.state (ip + 1) at ∙ apart here))))

  pub opens : (g : ℕ) (h' : StateModel) → slice_get r.program.insns ip ≡ Some (BeginCaptureGroup g) → IsNotStuck (act r.program r.text r.direction here)
      → ChangesStateUndoably (with_group_open g at) h h' → TakesThreadTransition r 1 ip at h h' (on_at (ip + 1))
  opens g h' is can b =
      becomes-next (with_group_open g at) h' b (ap (λ o. act_on r.program r.text r.direction o here) is ∙ sym (by-only _ _ (can-here (BeginCaptureGroup g) is can))) (λ s. refl)

  pub resets : (g : ℕ) (h' : StateModel) → slice_get r.program.insns ip ≡ Some (ResetCaptureGroup g) → IsNotStuck (act r.program r.text r.direction here)
      → ChangesStateUndoably (state_with_group_unset g) h h' → TakesThreadTransition r 1 ip at h h' (on_at (ip + 1))
  resets g h' is can b =
      becomes-next (state_with_group_unset g) h' b (ap (λ o. act_on r.program r.text r.direction o here) is ∙ sym (by-only _ _ (can-here (ResetCaptureGroup g) is can))) (λ s. refl)

  pub closes : (g start from to : ℕ) (h' : StateModel) → slice_get r.program.insns ip ≡ Some (EndCaptureGroup g) → IsNotStuck (act r.program r.text r.direction here)
      → slice_get here.starts g ≡ Some start → (from, to) ≡ range_swapped_if_leftwards r.direction start at → ChangesStateUndoably (with_group_range g from to) h h' → TakesThreadTransition r 1 ip at h h' (on_at (ip + 1))
  closes g start from to h' is can opened range b =
      let range_to : ℕ → Next = λ start. go (record here { ip = ip + 1; groups = slice_set here.groups g (Some (range_swapped_if_leftwards r.direction start at)) }) in
      becomes-next (with_group_range g from to) h' b
      (ap (λ o. act_on r.program r.text r.direction o here) is
      ∙ sym (by-only _ _ (can-here (EndCaptureGroup g) is can))
      ∙ ap (λ o. with_some o range_to) opened
      ∙ ap (λ q. go (record here { ip = ip + 1; groups = slice_set here.groups g (Some q) })) (sym range))
      (λ s. refl)

  -- A branch continues at the next instruction and leaves its other arm pending.
  pub forks : (secondary : ℕ) (mark : ChoicePoint) → slice_get r.program.insns ip ≡ Some (Alt secondary) → mark.log ≡ length h.log → r.Fits mark
      → r.branches mark ≡ record { ip = secondary; at = at } ∷ [] → TakesThreadTransition r 1 ip at h (with_choice_point_list (h.choice_points ++ mark ∷ []) h) (on_at (ip + 1))
  forks secondary mark is now fits branches =
      only-choice_point_pushed r 1 ip at h mark now fits (record { ip = ip + 1; at = at }) (omega arith)
      (subst (λ ws. Replaces r 1 here (running (current_thread_state_of h (ip + 1) at) ∷ map (pending_thread h.groups h.slots) ws)) (sym branches)
      (replaces-goes r here (current_thread_state_of h (ip + 1) at ∷ current_thread_state_of h secondary at ∷ []) (went (Alt secondary) is _ refl)))
