-- A backreference continues after the characters of its group, or at the same offset if the group is unset.
use Rattle.std.proofs.Common.{◌≡◌, ℕ, ◌+◌, ◌≤◌, List, [], ◌∷◌, length, Option, Some, None, Bool, true, false, ap, sym, ◌∙◌, subst, arith, slice_get}
use Rattle.std.specs.Prelude.{◌&&◌, nat_le, option_map, if◌then◌else◌}
use lib.Pointwise.{pointwise}
use Rattle.regex_meaning.specs.Tree.{Sameness}
use Rattle.regex_meaning.specs.Outcomes.{is_same}
use Rattle.regex_meaning.specs.Text.{Text, Direction, characters_ahead, next_characters, moved}
use Rattle.regex_meaning.specs.CodeUnitOffsets.{HasRisingPlaceOffsets, units, offset as text_offset}
use Rattle.regex_meaning.specs.CompilationRelation.{BackRef}
use Rattle.regex_meaning.proofs.OptionLemmas.{some-same}
use Rattle.regress_input.specs.CharAndByteReadsFromOffset.{place, past_spelled_if_next, characters_between}
use Rattle.regress_machine.specs.Machine.{State, with_some, read_group, act, act_on}
use Rattle.regress_machine.specs.InsnEffects.{IsNotStuck}
use Rattle.regress_machine.proofs.OffsetsInsideText.{offset-inside}
use Rattle.regress_search.proofs.TextReadLemmas.{nothing-read, group-read}
use Rattle.regress_backtrack.specs.State.{StateModel, current_thread_state_of}
use Rattle.regress_backtrack.specs.StateTransitions.{SearchModel, TakesThreadTransition}
use Rattle.regress_backtrack.proofs.LeftThreadLemmas.{replaces-goes}
use Rattle.regress_backtrack.proofs.StateTransitionLemmas.{unchanged}

-- ---- Backreferences

module _ (text : Text) (is : HasRisingPlaceOffsets text) where
  pub spelled-inside : (same : ℕ → ℕ → Bool) (cs : List ℕ) (d : Direction) (at to : ℕ) → Some to ≡ past_spelled_if_next text same cs d at → to ≤ units text
  spelled-inside same cs d at to e =
      by (nat_le (length cs) (characters_ahead text d (place text at)) && pointwise same cs (next_characters text d (length cs) (place text at))) e
    where
      by : (b : Bool) → Some to ≡ (if b then Some (text_offset text (moved text d (length cs) (place text at))) else None) → to ≤ units text
      by true e = subst (λ n. n ≤ units text) (sym (some-same _ _ e)) (offset-inside text is (moved text d (length cs) (place text at)))
      by false e = let some_none : Some to ≡ None = e in cc

module _ (r : SearchModel) (is : HasRisingPlaceOffsets r.text) (ip at : ℕ) (h : StateModel) (g : ℕ) (sameness : Sameness) where
  abbrev here : State
  here = current_thread_state_of h ip at

  module _ (insn : slice_get r.program.insns ip ≡ Some (BackRef g sameness)) (can : IsNotStuck (act r.program r.text r.direction here)) where
    module _ (range : Option (ℕ × ℕ)) (known : slice_get here.groups g ≡ Some range) where
      reads : act r.program r.text r.direction here ≡ read_group r.text sameness r.direction range here
      reads = ap (λ o. act_on r.program r.text r.direction o here) insn ∙ ap (λ o. with_some o (λ range. read_group r.text sameness r.direction range here)) known

      pub can-read : IsNotStuck (read_group r.text sameness r.direction range here)
      can-read = subst IsNotStuck reads can

    pub reads-nothing : slice_get here.groups g ≡ Some None → TakesThreadTransition r 1 ip at h h (Some (record { ip = ip + 1; at = at }))
    reads-nothing known =
        unchanged r 1 ip at h (Some (record { ip = ip + 1; at = at })) (omega arith)
        (replaces-goes r here (current_thread_state_of h (ip + 1) at ∷ []) (reads None known ∙ sym (nothing-read r.text is sameness r.direction here (can-read None known))))

    pub reads-again : (from to : ℕ) → slice_get here.groups g ≡ Some (Some (from, to)) → (found : Option ℕ)
        → found ≡ past_spelled_if_next r.text (is_same r.text sameness) (characters_between r.text from to) r.direction at
        → TakesThreadTransition r 1 ip at h h (option_map (λ at. record { ip = ip + 1; at = at }) found)
    reads-again from to known None e =
        unchanged r 1 ip at h None (omega arith)
        (replaces-goes r here []
        (reads (Some (from, to)) known ∙ sym (group-read r.text is sameness r.direction from to here false 0 (can-read (Some (from, to)) known) e)))
    reads-again from to known (Some at') e =
        unchanged r 1 ip at h (Some (record { ip = ip + 1; at = at' })) (omega arith)
        (replaces-goes r here (current_thread_state_of h (ip + 1) at' ∷ [])
        (reads (Some (from, to)) known ∙ sym (group-read r.text is sameness r.direction from to here true at' (can-read (Some (from, to)) known) e)))
