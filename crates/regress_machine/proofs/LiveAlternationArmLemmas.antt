-- The live arms of a chain of alternations simulate the whole chain.
use Rattle.std.proofs.Common.{◌≡◌, ℕ, zero, suc, ◌+◌, List, [], ◌∷◌, ◌++◌, map, Bool, false, Option, Some, None, refl, ap, sym, ◌∙◌, subst, arith, slice_get}
use mathlib.Core.Logic.{inl, inr}
use Rattle.regex_meaning.specs.Text.{Text, Direction}
use Rattle.regex_meaning.specs.CompilationRelation.{Program, Alt}
use Rattle.regress_machine.specs.Machine.{State, Thread, running, waiting, goes, first_running_and_others_waiting, Found, with_steps, search_after_effect, act, act_on, search}
use Rattle.regress_machine.proofs.MachineSearchLemmas.{search_more}
use Rattle.regress_machine.specs.LiveAlternationArms.{IsArmKeptIfLive, AreLiveArms}
use Rattle.regress_machine.specs.ThreadSimulation.{Within, Simulates, FindsNothing}
use Rattle.regress_machine.proofs.ThreadSimulationLemmas.{simulates-same, simulates-then, simulates-fewer, simulates-goes, simulates-waits, simulates-behind, drops-prefix, nothing-waits}

module _ (program : Program) (text : Text) (d : Direction) where
  abbrev Standing : (spent : ℕ) (us ts : List Thread) → Type 0
  Standing spent us ts = Simulates program text false d spent us ts

  -- The next thread may wait in place of a waiting thread that leads to it.
  waits-goes : (s t : State) (us : List Thread) → act program text d s ≡ goes (running t ∷ us) → Standing 1 (waiting t ∷ us) (waiting s ∷ [])
  unfolding search
  waits-goes s t us is = record { within = λ turns vs f e. by turns vs f e }
    where
      found : (n : ℕ) (vs : List Thread) (f : Found) (r : Option Found) → search program text n d (running t ∷ (us ++ vs)) ≡ r → with_steps 1 (with_steps 1 r) ≡ Some f
          → Within program text false (suc (suc n)) d 1 (waiting t ∷ (us ++ vs)) f
      found n vs f None q e = cc
      found n vs f (Some g) q e =
          let same : record g { steps = 1 + (1 + g.steps) } ≡ f = cc in
          let steps : 1 + (1 + g.steps) ≡ f.steps = ap (λ (h : Found). h.steps) same in
          record {
            found = record g { steps = 1 + g.steps };
            searches = ap (with_steps 1) (search_more program text n (suc n) (omega arith) d (running t ∷ (us ++ vs)) g q);
            end = ap (λ (h : Found). h.end) same;
            few = omega (arith, steps);
            counted = λ x. cc;
          }

      by : (turns : ℕ) (vs : List Thread) (f : Found) → search program text turns d (waiting s ∷ vs) ≡ Some f → Within program text false turns d 1 (waiting t ∷ (us ++ vs)) f
      by zero vs f e = cc
      by (suc zero) vs f e = cc
      by (suc (suc n)) vs f e =
          found n vs f (search program text n d (running t ∷ (us ++ vs))) refl
          (sym (ap (λ x. with_steps 1 (search_after_effect (λ d us. search program text n d us) d x vs)) is) ∙ e)

  module _ (s : State) (may : ℕ → Bool) (vain : (ip : ℕ) → may ip ≡ false → FindsNothing program text d (running (record s { ip = ip }))) where
    abbrev at : ℕ → State
    at ip = record s { ip = ip }

    abbrev wait : List ℕ → List Thread
    wait arms = map waiting (map at arms)

    abbrev run : List ℕ → List Thread
    run arms = first_running_and_others_waiting (map at arms)

    branches : (ip other : ℕ) → slice_get program.insns ip ≡ Some (Alt other) → act program text d (at ip) ≡ goes (running (at (ip + 1)) ∷ waiting (at other) ∷ [])
    branches ip other is = ap (λ o. act_on program text d o (at ip)) is

    -- The live arms of a chain may wait in place of its first instruction.
    arms-wait : (count ip : ℕ) (arms : List ℕ) → AreLiveArms program may count ip arms → Standing 0 (wait arms) (waiting (at ip) ∷ [])
    arms-wait zero ip arms (inl is) = subst (λ l. Standing 0 (wait l) (waiting (at ip) ∷ [])) (sym is) (simulates-same program text false d (waiting (at ip) ∷ []))
    arms-wait zero ip arms (inr is) =
        subst (λ l. Standing 0 (wait l) (waiting (at ip) ∷ [])) (sym is.0)
        (simulates-fewer program text d 0 1 [] (waiting (at ip) ∷ []) (omega arith) (nothing-waits program text d (at ip) (vain ip is.1)))
    arms-wait (suc count) ip arms (other, others, alt, before, rest) =
        let behind = arms-wait count other others rest in
        let both = waits-goes (at ip) (at (ip + 1)) (waiting (at other) ∷ []) (branches ip other alt) in
        elim before [
          | inl taken ↦
              subst (λ l. Standing 0 (wait l) (waiting (at ip) ∷ [])) (sym taken)
              (simulates-fewer program text d 0 (1 + 0) (wait ((ip + 1) ∷ others)) (waiting (at ip) ∷ []) (omega arith)
              (simulates-then program text false d 1 0 (waiting (at ip) ∷ []) (waiting (at (ip + 1)) ∷ waiting (at other) ∷ []) (wait ((ip + 1) ∷ others)) both
              (simulates-behind program text d 0 (wait others) (waiting (at other) ∷ []) (waiting (at (ip + 1)) ∷ []) behind)))
          | inr left ↦
              subst (λ l. Standing 0 (wait l) (waiting (at ip) ∷ [])) (sym left.0)
              (simulates-fewer program text d 0 ((1 + 1) + 0) (wait others) (waiting (at ip) ∷ []) (omega arith)
              (simulates-then program text false d (1 + 1) 0 (waiting (at ip) ∷ []) (waiting (at other) ∷ []) (wait others)
              (simulates-then program text false d 1 1 (waiting (at ip) ∷ []) (waiting (at (ip + 1)) ∷ waiting (at other) ∷ []) (waiting (at other) ∷ []) both
              (drops-prefix program text d (waiting (at (ip + 1))) (waiting (at other) ∷ []) (nothing-waits program text d (at (ip + 1)) (vain (ip + 1) left.1))))
              behind))
        ]

    -- If the other arms simulate the second way of an alternative, all arms simulate it in a step.
    arm-run : (ip other : ℕ) (others arms : List ℕ) → slice_get program.insns ip ≡ Some (Alt other) → IsArmKeptIfLive may (ip + 1) others arms
        → Standing 0 (wait others) (waiting (at other) ∷ []) → Standing 0 (run others) (running (at other) ∷ []) → Standing 1 (run arms) (running (at ip) ∷ [])
    arm-run ip other others arms alt before behind on =
        let goes_on = simulates-goes program text false d (at ip) (running (at (ip + 1)) ∷ waiting (at other) ∷ []) (branches ip other alt) in
        elim before [
          | inl taken ↦
              subst (λ l. Standing 1 (run l) (running (at ip) ∷ [])) (sym taken)
              (simulates-then program text false d 1 0 (running (at ip) ∷ []) (running (at (ip + 1)) ∷ waiting (at other) ∷ []) (run ((ip + 1) ∷ others)) goes_on
              (simulates-behind program text d 0 (wait others) (waiting (at other) ∷ []) (running (at (ip + 1)) ∷ []) behind))
          | inr left ↦
              subst (λ l. Standing 1 (run l) (running (at ip) ∷ [])) (sym left.0)
              (simulates-fewer program text d 1 ((1 + 1) + (1 + 0)) (run others) (running (at ip) ∷ []) (omega arith)
              (simulates-then program text false d (1 + 1) (1 + 0) (running (at ip) ∷ []) (waiting (at other) ∷ []) (run others)
              (simulates-then program text false d 1 1 (running (at ip) ∷ []) (running (at (ip + 1)) ∷ waiting (at other) ∷ []) (waiting (at other) ∷ []) goes_on
              (drops-prefix program text d (running (at (ip + 1))) (waiting (at other) ∷ []) (vain (ip + 1) left.1)))
              (simulates-then program text false d 1 0 (waiting (at other) ∷ []) (running (at other) ∷ []) (run others)
              (simulates-waits program text false d (at other)) on)))
        ]

    -- The live arms of a chain simulate the running thread at its first instruction.
    arms-run : (count ip : ℕ) (arms : List ℕ) → AreLiveArms program may count ip arms → Standing 0 (run arms) (running (at ip) ∷ [])
    arms-run zero ip arms (inl is) = subst (λ l. Standing 0 (run l) (running (at ip) ∷ [])) (sym is) (simulates-same program text false d (running (at ip) ∷ []))
    arms-run zero ip arms (inr is) =
        subst (λ l. Standing 0 (run l) (running (at ip) ∷ [])) (sym is.0)
        (simulates-fewer program text d 0 1 [] (running (at ip) ∷ []) (omega arith) (vain ip is.1))
    arms-run (suc count) ip arms (other, others, alt, before, rest) =
        simulates-fewer program text d 0 1 (run arms) (running (at ip) ∷ []) (omega arith)
        (arm-run ip other others arms alt before (arms-wait count other others rest) (arms-run count other others rest))

    -- The live arms of a chain of at least one alternative simulate it in one step.
    pub arms-turn : (count ip : ℕ) (arms : List ℕ) → AreLiveArms program may (suc count) ip arms → Standing 1 (run arms) (running (at ip) ∷ [])
    arms-turn count ip arms (other, others, alt, before, rest) =
        arm-run ip other others arms alt before (arms-wait count other others rest) (arms-run count other others rest)
